pub mod Finding
pub mod Owners
pub mod Numbered
pub mod Counting
pub mod Tables
pub mod Grown
pub mod Every
