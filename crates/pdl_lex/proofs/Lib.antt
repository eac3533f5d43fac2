pub mod PiecesCut
pub mod TokensLongest
pub mod TokenWalks
pub mod TokenSpans
pub mod PiecesSettled
pub mod JoiningLemmas
pub mod TokensApart
pub mod WrittenLemmas
