pub mod Folds
pub mod Refusals
pub mod Reductions
pub mod Across
pub mod Pairings
pub mod Blocks
pub mod Answers
