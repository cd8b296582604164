pub mod Lines
pub mod Schemes
pub mod Commands
