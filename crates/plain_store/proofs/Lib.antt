pub mod MapLemmas
pub mod TableLaws
pub mod UniqueLaws
pub mod WriteLaws
pub mod CheckLaws
