pub mod Later
pub mod Balanced
pub mod Stacks
pub mod Drawing
pub mod Choosing
pub mod Unfolding
pub mod Reaching
