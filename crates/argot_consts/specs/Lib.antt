pub mod Whole
pub mod Halves
pub mod Fold
pub mod Laws
