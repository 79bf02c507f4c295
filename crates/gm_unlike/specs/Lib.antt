pub mod Among
pub mod Checkups
pub mod Claims
pub mod Flaws
pub mod Texts
pub mod Unequals
