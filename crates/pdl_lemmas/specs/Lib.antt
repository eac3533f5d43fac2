pub mod Tests
pub mod Options
pub mod Results
pub mod Numbers
pub mod Lists
pub mod KnownBytes
