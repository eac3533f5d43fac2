pub mod Looks
pub mod Nice
pub mod Reading
pub mod Plain
pub mod Laws
pub mod Ends
pub mod Adding
pub mod Writing
