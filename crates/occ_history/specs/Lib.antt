pub mod History
pub mod Rule
pub mod Steps
pub mod Clauses
pub mod Orders
pub mod Laws
