pub mod CutLaws
pub mod EntryLaws
pub mod FurtherLaws
pub mod PlaceLaws
pub mod RedoLaws
pub mod StepLaws
