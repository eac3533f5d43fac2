pub mod Parts
pub mod Trees
pub mod Scripts
pub mod Rereading
