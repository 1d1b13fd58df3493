pub mod Form
pub mod Entry
pub mod Promises
