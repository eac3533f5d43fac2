pub mod Rebuilt
pub mod Steps
pub mod Made
pub mod Named
pub mod Shown
pub mod Rebuilding
pub mod Running
