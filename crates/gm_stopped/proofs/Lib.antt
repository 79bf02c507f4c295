pub mod Common
pub mod Listing
pub mod Missing
pub mod StrangeTest
pub mod Truth
pub mod Walking
