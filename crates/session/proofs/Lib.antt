pub mod Cut
pub mod Told
pub mod Taken
pub mod Kept
