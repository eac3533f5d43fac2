pub mod Grammar
pub mod Refusals
pub mod SliceReading
pub mod Collected
pub mod Meaning
pub mod Written
