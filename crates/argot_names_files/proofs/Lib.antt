pub mod Fitting
pub mod Read
pub mod Parts
pub mod Agreement
