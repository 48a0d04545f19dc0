pub mod Pages
pub mod Offers
pub mod Told
pub mod Notices
pub mod Books
pub mod Messages
