-- What ready queues mean.
pub mod Keys
pub mod Least
pub mod Levels
