pub mod Intervals
pub mod Limits
pub mod LimitsLaws
pub mod Refusal
pub mod RefusalLaws
pub mod SetUp
pub mod SetUpLaws
