-- The laws of names, patterns and plans that other crates may cite, by file.
pub mod Matching
pub mod Words
pub mod Filling
pub mod Examples
pub mod Lists
pub mod Formats
pub mod Places
pub mod Validity
pub mod Ascending
pub mod Checking
pub mod Packed
pub mod Assignments
pub mod LaidOut
pub mod PlanExamples
