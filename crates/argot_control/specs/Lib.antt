pub mod Blocks
pub mod Steps
pub mod Numbering
pub mod Pairs
pub mod Between
pub mod Controlled
pub mod Accesses
