pub mod Texts
pub mod Stubs
