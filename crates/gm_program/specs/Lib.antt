pub mod Ends
pub mod Recoveries
pub use Rattle.gm_process.specs.Statuses
pub use Rattle.gm_reports.specs.Reports
