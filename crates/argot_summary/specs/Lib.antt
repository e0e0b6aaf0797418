pub mod Buckets
pub mod Finding
pub mod Netted
pub mod Stepping
pub mod Closing
pub mod Summed
pub mod Rules
