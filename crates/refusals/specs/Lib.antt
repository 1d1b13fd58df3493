pub mod Grounds
pub mod Printed
