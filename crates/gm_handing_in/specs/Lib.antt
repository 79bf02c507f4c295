pub mod Ends
pub mod Forced
pub mod Guarded
pub mod Insistence
pub mod LettingGo
pub use Rattle.gm_process.specs.Statuses
