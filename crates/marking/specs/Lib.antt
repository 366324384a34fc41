pub mod Marking
pub mod Meets
pub mod Invariant
pub mod Numbers
