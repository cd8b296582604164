pub mod Places
pub mod Appended
