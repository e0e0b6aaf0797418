pub mod Edges
pub mod Places
pub mod Paths
pub mod Working
pub mod Form
