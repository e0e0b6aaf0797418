pub mod Blocks
pub mod Roles
pub mod Bringing
pub mod Binding
pub mod Looking
pub mod Listing
pub mod Generics
