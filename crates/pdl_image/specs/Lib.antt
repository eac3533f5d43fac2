pub mod Lines
pub mod Stems
pub mod Dump
pub mod Image
pub mod Adding
pub mod Laws
pub mod Worked
