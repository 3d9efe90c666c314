-- What rules mean.
pub mod Bases
pub mod Acts
pub mod Plain
pub mod Pairs
pub mod Program
pub mod Choose
