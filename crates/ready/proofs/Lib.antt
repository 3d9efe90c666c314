-- Lemmas on keys, on the least and on the knock-out.
pub mod Ranks
pub mod Leasts
pub mod Firsts
pub mod Rounds
pub mod Replays
pub mod Refused
