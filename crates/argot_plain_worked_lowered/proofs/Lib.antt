pub mod Well
pub mod Reading
pub mod StraightLineRun
pub mod LoopRun
pub mod ClosureRun
pub mod CalledMethodRun
pub mod DeferredCallRun
