pub mod Walking
pub mod Growing
pub mod Edging
pub mod Ruling
pub mod Closed
pub mod Exactness
pub mod Sorting
