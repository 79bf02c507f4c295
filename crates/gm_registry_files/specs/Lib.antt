pub mod Beside
pub mod Obstacles
pub mod Wholes
