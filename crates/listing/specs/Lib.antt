-- The definitions of the lines of a listing, and of what stands in the buffers of a stream, by file.
pub mod Buffers
pub mod Lines
