mod Back
pub mod Rooms
