pub mod TextLaws
pub mod SizeLaws
pub mod StepLaws
pub mod LogLaws
pub mod SpelledLaws
pub mod EndLaws
