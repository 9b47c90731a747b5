mod AsBox
mod Holdings
mod Parts
mod Refusals
