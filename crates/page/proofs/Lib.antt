-- The laws that callers cite.
pub mod Laid
pub mod Lines
