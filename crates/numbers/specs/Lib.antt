pub mod Bytes
pub mod Sums
pub mod Tests
pub mod Bisection
