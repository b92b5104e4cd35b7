-- The definitions of names, patterns and plans that the contracts cite, by file.
pub mod Topics
pub mod Rows
pub mod Examples
pub mod Lists
pub mod Plans
pub mod Places
pub mod Waiting
pub mod Ascending
pub mod PlanExamples
