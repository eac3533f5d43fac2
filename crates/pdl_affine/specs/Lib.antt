pub mod Slicing
pub mod Views
pub mod Windows
pub mod Courses
pub mod Laws
pub mod Plan
