pub mod Links
pub mod Linker
