pub mod Balance
pub mod Faults
pub mod Flags
pub mod Images
pub mod Labels
pub mod Reading
pub mod Sector
pub mod Versions
