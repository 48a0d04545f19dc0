pub mod Macros
pub mod Escaped
pub mod Expansion
pub mod Laws
