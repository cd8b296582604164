pub mod Made
pub mod Laid
pub mod Filled
pub mod Stored
pub mod Unmasked
pub mod Chunks
