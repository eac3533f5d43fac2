pub mod Filled
pub mod Flags
pub mod Gathered
pub mod Outdated
pub mod Seen
