pub mod Parts
pub mod Fitting
pub mod Leaves
pub mod Counts
pub mod Steps
