pub mod Setting
pub mod Naming
pub mod Membership
pub mod Counting
pub mod Wrapping
pub mod Pushed
