pub mod CoverLaws
pub mod CutLaws
pub mod FreeListLaws
pub mod LongestLaws
pub mod OrderLaws
pub mod SumLaws
pub mod Sweep
