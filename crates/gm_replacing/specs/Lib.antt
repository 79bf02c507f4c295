pub mod Filled
pub mod OldImages
