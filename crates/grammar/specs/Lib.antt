-- The grammar of run files.
pub mod Bytes
pub mod Forms
pub mod Faults
pub mod Tokens
pub mod Grammar
pub mod Reader
pub mod Slots
pub mod Lines
pub mod Claims
pub mod Examples
