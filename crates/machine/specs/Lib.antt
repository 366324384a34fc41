pub mod Machine
pub mod PileLaws
pub mod ShowsLaws
pub mod MetLaws
pub mod MoveLaws
pub mod RunLaws
