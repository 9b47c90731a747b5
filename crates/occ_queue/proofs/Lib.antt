pub mod Beginnings
pub mod Ends
pub mod Passing
pub mod TakenOut
pub mod Turns
