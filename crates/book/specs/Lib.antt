pub mod Limits
pub mod Fields
pub mod Rates
pub mod BookGrounds
pub mod Held
pub mod Holding
pub mod Filling
pub mod Private
