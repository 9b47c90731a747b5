pub mod Answering
pub mod Forgetting
pub mod Moving
pub mod Walking
pub mod PageScans
