pub mod Verdict
pub mod WorkingLevels
pub mod HeldNumbers
pub mod CommonFactor
pub mod WholeHours
pub mod Promises
