pub mod Inside
pub mod Meanings
pub mod Known
pub mod Files
pub mod Others
pub mod Folders
pub mod Positions
