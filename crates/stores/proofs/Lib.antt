-- The laws of flat stores that other crates may cite, by file.
pub mod Rows
pub mod Searching
pub mod Walking
pub mod Filling
pub mod Keying
pub mod Marking
pub mod Compacting
