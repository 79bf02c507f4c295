pub mod Sources
pub mod States
pub mod Tasted
pub mod Tasting
pub mod Verdicts
