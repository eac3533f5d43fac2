pub mod ResolutionHanding
