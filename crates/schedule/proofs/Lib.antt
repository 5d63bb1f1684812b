pub mod ContentsLaws
pub mod ContentsWhole
pub mod WordLaws
