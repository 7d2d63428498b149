pub mod Forms
pub mod Splitting
pub mod Numbers
pub mod FieldLaws
pub mod KnownLaws
pub mod NumberLaws
