pub mod KeptTokens
pub mod Tied
pub mod DecidedBy
pub mod Filing
