pub mod After
pub mod Alike
pub mod Asked
pub mod Beginnings
pub mod RowTexts
pub mod Walks
