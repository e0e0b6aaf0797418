pub mod NameLaws
pub mod RowLaws
pub mod OperatorLaws
pub mod UnaryLaws
