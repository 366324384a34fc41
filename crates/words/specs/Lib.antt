pub mod Header
pub mod Map
