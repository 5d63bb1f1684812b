pub mod SectionLaws
pub mod FileLaws
pub mod SectionTexts
pub mod FileTexts
pub mod Cases
