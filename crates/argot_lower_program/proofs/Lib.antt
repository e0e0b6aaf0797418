pub mod Lists
pub mod Exits
pub mod Chain
pub mod Program
mod Orders
