pub mod Turns
pub mod Orders
pub mod Follows
pub mod Programs
