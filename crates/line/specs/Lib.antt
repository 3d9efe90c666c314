pub mod Records
pub mod Views
pub mod Needed
pub mod Waiting
pub mod Sound
pub mod Calls
