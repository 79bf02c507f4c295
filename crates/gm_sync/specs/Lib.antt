pub mod Ends
pub mod Faults
pub mod Filling
pub mod Scopes
pub mod Series
pub mod SyncRuns
