pub mod Tool
pub mod Laws
