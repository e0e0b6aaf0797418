pub mod Links
pub mod Linker
pub mod Sorts
