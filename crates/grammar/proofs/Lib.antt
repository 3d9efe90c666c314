-- Lemmas on the grammar and its reader.
pub mod Digits
pub mod Scans
pub mod Uniques
pub mod Places
pub mod Tells
pub mod Goings
pub mod Cuts
pub mod Lasting
pub mod Slots
pub mod Shifts
