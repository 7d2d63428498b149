pub mod ListLaws
pub mod ChangeLaws
pub mod Uniques
pub mod TableLaws
pub mod VectorLaws
pub mod SaidSteps
pub mod SaidFields
pub mod SaidVectors
