pub mod Answers
pub mod Model
pub mod Bursts
pub mod Promises
pub mod History
pub mod Ranges
pub mod Invariants
pub mod Examples
