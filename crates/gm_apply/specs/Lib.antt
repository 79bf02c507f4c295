pub mod Calls
pub mod Continues
pub mod DifferingData
pub mod EqualData
pub mod Failing
pub mod Pending
pub mod Redo
