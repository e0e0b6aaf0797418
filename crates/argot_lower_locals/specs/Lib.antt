pub mod Typed
pub mod Nodes
pub mod Types
pub mod Names
pub mod Functions
pub mod Variables
pub mod Places
pub mod Globals
