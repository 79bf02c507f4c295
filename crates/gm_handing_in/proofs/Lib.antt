pub mod OneGuarded
pub mod UntoldLosses
