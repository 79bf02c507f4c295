pub mod Judged
pub mod Shown
pub mod Ways
