pub mod Orders
pub mod Machine
pub mod Stages
pub mod Spelled
pub mod Faults
pub mod Replies
pub mod Studies
pub mod Program
