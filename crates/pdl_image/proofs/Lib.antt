pub mod AddingLemmas
pub mod DumpFilling
pub mod StemLemmas
pub mod DumpMasks
pub mod DumpParts
