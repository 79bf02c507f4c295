pub mod Common
pub mod Requests
pub mod TakenLines
