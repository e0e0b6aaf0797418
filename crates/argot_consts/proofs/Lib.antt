pub mod Bitwise
pub mod Dividing
pub mod Narrow
pub mod Shifts
