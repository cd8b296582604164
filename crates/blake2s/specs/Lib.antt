pub mod Tables
pub mod Mixing
pub mod Compression
pub mod Hashing
