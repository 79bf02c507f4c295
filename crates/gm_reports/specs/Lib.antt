pub mod PassedOver
pub mod Reports
pub use Rattle.gm_process.specs.Statuses
