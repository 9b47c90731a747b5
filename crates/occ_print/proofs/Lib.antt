pub mod Printing
pub mod Readable
pub mod SessionMarks
pub mod TableRows
