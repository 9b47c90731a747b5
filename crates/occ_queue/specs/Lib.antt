pub mod Items
pub mod Lanes
pub mod Numbering
pub mod Rule
pub mod Waiting
