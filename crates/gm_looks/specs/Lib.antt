pub mod Agreeing
pub mod Audits
pub mod Scrubs
pub mod Shown
pub mod Standings
pub mod Texts
pub mod Unlikes
pub mod Words
