-- What the code of the reader stands for.
pub mod Places
pub mod Met
pub mod Reads
pub mod Scanned
pub mod Taking
pub mod Kinds
pub mod Filling
pub mod Forming
pub mod Cutting
