pub mod Handing
pub mod Playing
pub mod Nodes
pub mod Listing
pub mod Linked
pub mod Ordering
pub mod Joined
pub mod Flowing
