pub mod Lengths
pub mod Steadies
pub mod Changes
pub mod Bits
pub mod Queues
pub mod NextHead
