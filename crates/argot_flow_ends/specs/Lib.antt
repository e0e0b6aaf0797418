pub mod Roles
pub mod Ends
pub mod Linking
pub mod Order
