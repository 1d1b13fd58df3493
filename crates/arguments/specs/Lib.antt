-- What a word of digits means, what asks for help, and what is a text.
pub mod Digits
pub mod Help
pub mod Texts
