pub mod Committing
pub mod Endings
pub mod StepsFollow
pub mod Transacting
