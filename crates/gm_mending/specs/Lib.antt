pub mod Compared
pub mod Doubts
pub mod Others
pub mod Owed
pub mod Repair
