pub mod NeverStrange
