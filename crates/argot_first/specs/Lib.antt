pub mod Code
pub mod Marks
pub mod Links
pub mod Answer
pub mod Report
