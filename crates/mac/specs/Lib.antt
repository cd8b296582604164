pub mod Tagging
pub mod Differing
