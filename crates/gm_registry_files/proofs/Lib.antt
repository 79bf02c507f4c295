pub mod Common
pub mod LogHeads
pub mod SuffixedNames
