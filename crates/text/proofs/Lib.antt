pub mod DecimalLaws
pub mod CutLaws
pub mod LineLaws
pub mod FieldLaws
pub mod UncutLaws
