pub mod Laying
pub mod Order
pub mod Words
pub mod Masks
pub mod Quarters
