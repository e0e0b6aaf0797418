pub mod Lines
pub mod Cursors
pub mod TreeLines
pub mod Shows
pub mod ShowsTrees
