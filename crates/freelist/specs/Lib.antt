pub mod Records
pub mod Search
pub mod Figures
pub mod RecordsLaws
pub mod SearchLaws
pub mod FiguresLaws
