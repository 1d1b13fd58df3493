pub mod Chain
pub mod Sound
pub mod Balance
pub mod Inflow
pub mod Exact
pub mod Factors
pub mod Promises
pub mod Private
