pub mod Entries
pub mod Faults
pub mod MemFilesFields
pub mod MemSinkFields
pub mod Memory
pub mod Taken
pub mod Told
