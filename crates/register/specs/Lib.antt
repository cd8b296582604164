pub mod Names
pub mod Paths
pub mod Table
pub mod Adding
pub mod Listing
