pub mod Lent
pub mod Calls
pub mod Fits
pub mod LentLaws
pub mod FitsLaws
pub mod CallsLaws
