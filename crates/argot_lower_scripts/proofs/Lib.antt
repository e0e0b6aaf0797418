pub mod Stretches
pub mod Same
