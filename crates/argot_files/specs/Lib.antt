-- one file, and what its tree determines
pub mod Reading
pub mod Places
pub mod Tabled
-- nodes: links, parents, children
pub mod Links
pub mod Parents
pub mod Children
pub mod Keys
pub mod Marks
pub mod Forms
