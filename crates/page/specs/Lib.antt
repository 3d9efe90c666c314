-- The definitions of a page and of its lines.
pub mod Page
pub mod Pieces
