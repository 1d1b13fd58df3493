pub mod Places
pub mod Mark
pub mod Promises
pub mod Private
