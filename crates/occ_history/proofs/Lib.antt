pub mod Beginnings
pub mod Kept
pub mod Asked
pub mod ReadsGiven
pub mod EntryRows
pub mod Serial
pub mod Standing
pub mod Places
