pub mod Words
pub mod Sinks
pub mod Counts
pub mod Lent
pub mod Laws
pub mod Answered
