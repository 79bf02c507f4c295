pub mod Common
pub mod Listed
pub mod NothingApplies
pub mod PartAgrees
pub mod SeenAlike
pub mod TakenProviders
