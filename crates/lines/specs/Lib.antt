pub mod Lines
pub mod Digits
pub mod Private
