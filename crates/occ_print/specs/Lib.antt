pub mod Books
pub mod Ends
