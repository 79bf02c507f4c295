pub mod ClearedImages
pub mod Copies
pub mod DifferingImages
pub mod FreeImages
pub mod LeftAmong
pub mod LeftImages
pub mod Losses
pub mod WholeImages
