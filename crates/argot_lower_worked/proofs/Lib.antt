pub mod StraightLineCode
pub mod LoopCode
pub mod ClosureCode
pub mod CalledMethodCode
pub mod DeferredCallCode
