-- lists and files as they are handed over
pub mod Lists
pub mod Files
pub mod Nodes
pub mod TextValues
pub mod GoMod
-- packages
pub mod Packages
pub mod Imports
pub mod Agreeing
pub mod Library
-- blocks, declarations, names
pub mod Universe
pub mod Blocks
pub mod Bindings
pub mod PackageScope
pub mod Scopes
pub mod Uses
-- the answers
pub mod Faults
pub mod Loaded
pub mod Subset
pub mod Laws
