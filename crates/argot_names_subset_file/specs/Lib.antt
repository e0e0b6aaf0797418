pub mod Spots
pub mod Atoms
pub mod Receivers
pub mod Parts
pub mod Files
pub mod Tables
pub mod Standings
pub mod Entries
