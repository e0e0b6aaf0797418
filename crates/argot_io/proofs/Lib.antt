pub mod Listings
pub mod Prefixes
pub mod TakenMore
