pub mod Script
pub mod Words
pub mod Says
pub mod Agrees
