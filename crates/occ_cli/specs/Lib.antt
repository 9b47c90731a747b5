pub mod Answers
pub mod Replaying
pub mod Schedules
pub mod Turns
