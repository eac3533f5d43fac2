pub mod Cursor
pub mod Inside
pub mod Walk
