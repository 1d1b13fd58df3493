pub mod Writing
pub mod Taken
pub mod Consumed
