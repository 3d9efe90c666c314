pub mod Lists
pub mod Sessions
pub mod Steps
pub mod Runs
pub mod Tracks
pub mod Histories
pub mod Bursts
pub mod Ranges
