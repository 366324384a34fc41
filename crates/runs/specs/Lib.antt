pub mod Runs
pub mod Covers
pub mod Lists
