pub mod Matching
pub mod Asking
pub mod Looking
pub mod Packages
pub mod Marking
