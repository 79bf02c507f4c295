pub mod AbstractCalls
pub mod Series
pub mod Step
pub mod Itself
