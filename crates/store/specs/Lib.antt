pub mod Allot
pub mod Fields
pub mod Survey
