mod Copies
mod Holdings
mod Kept
