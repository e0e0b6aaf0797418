pub mod Lists
pub mod Firsts
pub mod Items
pub mod Readings
pub mod Refusals
pub mod Following
pub mod Causes
