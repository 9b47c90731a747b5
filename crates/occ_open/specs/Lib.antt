pub mod Kept
pub mod Replies
pub mod Transactions
pub mod Pages
pub mod OwnOne
