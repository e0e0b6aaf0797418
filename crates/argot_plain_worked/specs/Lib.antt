pub mod FirstFlow
pub mod FilledBox
pub mod DeferredCall
pub mod CalledMethod
pub mod ReadFirst
pub mod FirstFlowRead
pub mod DeferredLiteral
