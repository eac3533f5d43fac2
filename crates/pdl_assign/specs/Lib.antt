pub mod Blocks
pub mod Alike
pub mod Through
pub mod Copies
pub mod Worked
