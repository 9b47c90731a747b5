pub mod Codes
pub mod Desks
pub mod Handles
pub mod Kept
pub mod Texts
