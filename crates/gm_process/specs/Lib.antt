pub mod Failures
pub mod Legible
pub mod Statuses
