pub mod Maps
pub mod Flowing
pub mod Fitting
pub mod Well
pub mod Operands
pub mod Fits
pub mod Drawing
pub mod Conclusion
