pub mod FrontLaws
pub mod ChainLaws
pub mod AloneLaws
pub mod TypeLaws
