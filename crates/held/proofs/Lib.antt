pub mod Filling
pub mod Pushed
pub mod Same
