pub mod Forms
pub mod LineLaws
pub mod SpelledDrafts
pub mod TextLaws
pub mod SaidText
pub mod Framed
pub mod StreamTexts
pub mod StreamEnds
