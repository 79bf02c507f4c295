pub mod Asked
pub mod Input
