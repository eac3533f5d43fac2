pub mod Tables
pub mod Types
pub mod Numbers
pub mod Operators
pub mod Blocks
pub mod Hashes
pub mod Laws
