pub mod HeaderLaws
pub mod RowLaws
pub mod PairLaws
