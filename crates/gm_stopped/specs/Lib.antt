pub mod Leavings
pub mod Losses
pub mod Strange
