pub mod Copies
pub mod Entries
pub mod Page
pub mod Pages
