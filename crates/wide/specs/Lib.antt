pub mod Value
pub mod Limbs
pub mod Quotient
