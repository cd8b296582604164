pub mod Replies
pub mod Files
pub mod Progress
pub mod Soundness
