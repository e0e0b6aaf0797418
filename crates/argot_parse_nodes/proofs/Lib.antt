pub mod LinkLaws
pub mod NestingLaws
