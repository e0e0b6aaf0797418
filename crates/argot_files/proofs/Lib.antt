-- lists and tables
pub mod Listed
-- trees that spell tokens
pub mod Linked
pub mod Shaping
pub mod ShapedTrees
pub mod Forming
-- tables
pub mod Parenting
pub mod Keying
pub mod Marking
-- nodes and their children
pub mod Nodes
pub mod Siblings
