pub mod CutLaws
pub mod FirstLaws
pub mod RecordLaws
pub mod StreamLaws
