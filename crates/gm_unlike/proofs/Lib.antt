pub mod EqualImages
pub mod Grouped
pub mod Registered
pub mod ToldBeside
