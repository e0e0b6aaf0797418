pub mod Order
pub mod Turning
