pub mod Totals
pub mod Exposure
pub mod WholeHours
pub mod Promises
