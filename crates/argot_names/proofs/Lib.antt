pub mod Members
pub mod Ordered
pub mod Named
pub mod Refusing
