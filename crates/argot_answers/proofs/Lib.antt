pub mod Exactly
pub mod Least
pub mod Adds
pub mod Tests
pub mod Walks
