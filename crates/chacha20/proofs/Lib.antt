pub mod Length
pub mod Rounded
