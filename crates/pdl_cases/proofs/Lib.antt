pub mod KeptLemmas
pub mod SlotsServed
