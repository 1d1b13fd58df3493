-- The laws behind the contracts, in the order in which they build on each other: one row among four; the next rates of
-- a run; rows and answers stay apart; a run on its way; what is promised.
mod OneRow
mod Steps
pub mod Apart
mod Running
mod Tail
pub mod Promised
