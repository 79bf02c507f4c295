pub mod Handed
pub mod Patches
