-- Lemmas on the code of the reader.
pub mod Cuts
pub mod Steps
pub mod Fills
pub mod Ends
pub mod Digits
