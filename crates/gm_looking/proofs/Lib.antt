pub mod AllIsWell
pub mod NothingAmiss
pub mod NothingFound
