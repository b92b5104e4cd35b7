-- The definitions of flat stores, by file.
pub mod Searches
pub mod Places
pub mod Compaction
pub mod Keys
