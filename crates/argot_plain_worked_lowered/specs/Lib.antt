pub mod Words
pub mod StraightLine
pub mod Loop
pub mod Closure
pub mod CalledMethod
pub mod DeferredCall
