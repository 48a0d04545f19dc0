pub mod Lines
pub mod Results
pub mod Served
pub mod Offered
