pub mod Members
pub mod Gathering
pub mod Finding
pub mod Numbered
pub mod Marked
pub mod Lowered
pub mod Bounds
