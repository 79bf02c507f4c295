pub mod AllWell
pub mod Checks
pub mod Looks
pub use Rattle.gm_process.specs.Statuses
pub use Rattle.gm_reports.specs.Reports
