pub mod Rounds
pub mod Blocks
pub mod LastBlocks
