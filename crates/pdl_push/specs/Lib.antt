pub mod Late
pub mod Targets
pub mod Settled
