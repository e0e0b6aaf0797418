pub mod Column
pub mod Listing
pub mod Stretches
