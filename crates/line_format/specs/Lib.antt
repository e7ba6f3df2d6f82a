pub mod Lines
pub mod Numerals
pub mod Readings
pub mod NumberedLines
pub mod KnownLines
