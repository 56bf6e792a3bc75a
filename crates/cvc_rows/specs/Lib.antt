pub mod Refusing
pub mod Rows
pub mod Lexed
pub mod Tokens
