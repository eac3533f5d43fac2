pub mod Answers
pub mod Changes
pub mod Elementwise
pub mod Fills
pub mod Values
pub mod Parts
pub mod Laws
