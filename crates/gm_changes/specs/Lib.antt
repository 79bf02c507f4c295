pub mod After
pub mod Decides
pub mod PartChange
pub mod Stretches
