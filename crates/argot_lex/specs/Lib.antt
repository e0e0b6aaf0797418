pub mod Characters
pub mod Names
pub mod Numbers
pub mod Literals
pub mod Comments
pub mod Marks
pub mod Front
pub mod Refused
