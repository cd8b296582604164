pub mod Number
pub mod Folded
pub mod Nibbles
pub mod Parts
