pub mod CursorJumps
pub mod CursorStand
pub mod CursorSteps
pub mod WalkLemmas
