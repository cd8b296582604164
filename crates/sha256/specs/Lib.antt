pub mod Tables
pub mod Functions
pub mod Compression
pub mod Hashing
pub mod Lengths
