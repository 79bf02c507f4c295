pub mod Accepted
pub mod Named
pub mod Told
