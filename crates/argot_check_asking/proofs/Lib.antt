pub mod Steps
pub mod Gaining
pub mod Soundness
pub mod Unique
pub mod Looping
pub mod Closing
pub mod Lacking
