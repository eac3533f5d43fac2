pub mod PieceFronts
pub mod PrintedTexts
