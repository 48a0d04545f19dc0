pub mod Leaves
pub mod Places
pub mod Trees
pub mod Counted
