pub mod Report
pub mod RateLine
pub mod BySet
pub mod Reports
pub mod Promises
