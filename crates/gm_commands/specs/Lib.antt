pub mod Commands
pub mod Sectors
