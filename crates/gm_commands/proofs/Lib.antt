pub mod Common
pub mod GivenOptions
pub mod JoinedSectors
pub mod JoinedWords
pub mod OneCommand
pub mod OneParting
pub mod OneWord
