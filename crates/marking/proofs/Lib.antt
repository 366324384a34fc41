pub mod InvariantLaws
pub mod MeetLaws
pub mod NumbersLaws
pub mod RunLaws
