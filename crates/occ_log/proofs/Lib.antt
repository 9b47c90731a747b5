pub mod Holding
pub mod Places
pub mod Opponents
pub mod Windows
pub mod WindowMoves
pub mod Changes
pub mod PhaseViews
pub mod Listed
pub mod Numbered
pub mod Dropping
pub mod Folding
mod LogTests
