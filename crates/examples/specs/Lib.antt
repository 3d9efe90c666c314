pub mod Late
pub mod Half
pub mod Next
pub mod Unheld
