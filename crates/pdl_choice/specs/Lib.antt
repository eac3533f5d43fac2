pub mod Choice
pub mod Edges
pub mod Index
pub mod Where
pub mod Range
pub mod Rounds
pub mod Clump
pub mod Laws
