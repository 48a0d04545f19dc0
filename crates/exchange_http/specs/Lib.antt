pub mod Serving
pub mod Gathered
pub mod Running
pub mod Going
pub mod Laws
pub mod Owned
pub mod OwnLaws
