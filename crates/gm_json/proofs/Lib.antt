pub mod Common
pub mod Grown
pub mod KeptCommands
pub mod NoFloats
