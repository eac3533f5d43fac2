pub mod RefusalCuts
pub mod SliceReadingBytes
pub mod GrammarComplete
pub mod GrammarSound
pub mod SliceReadingMoves
pub mod SliceReadingEndings
pub mod SliceReadingOutcomes
pub mod MeaningLemmas
mod WrittenTexts
