pub mod Calls
pub mod Keeps
pub mod Numbers
pub mod Reads
