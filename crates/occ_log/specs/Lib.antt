pub mod SessionStates
pub mod Rows
pub mod Listing
pub mod Logs
pub mod Phases
pub mod Window
