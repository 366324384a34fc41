pub mod CoverLaws
pub mod HeaderLaws
pub mod MapLaws
