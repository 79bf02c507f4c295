pub mod Adoptable
pub mod Applies
pub mod Facts
pub mod PartOf
pub mod Refusals
pub mod Seen
pub mod WorldFacts
