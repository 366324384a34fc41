pub mod Relisted
pub mod Moves
pub mod OffsetLaws
pub mod RelistedLaws
pub mod MovesLaws
pub mod SidesLaws
