pub mod Formula
pub mod Inputs
pub mod Meaning
pub mod Steps
pub mod Parts
pub mod Laws
pub mod Answers
pub mod Coding
