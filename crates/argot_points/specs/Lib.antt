pub mod Advancing
pub mod Found
pub mod Meaning
pub mod Reading
pub mod Settled
pub mod Solved
pub mod Solving
