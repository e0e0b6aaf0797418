pub mod Rules
pub mod Needs
pub mod Tables
pub mod Laws
