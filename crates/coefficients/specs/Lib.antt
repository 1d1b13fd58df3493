pub mod Sets
pub mod Rows
pub mod SetGrounds
pub mod WrittenOver
