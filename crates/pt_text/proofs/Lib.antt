pub mod Numerals
pub mod ByteWords
pub mod PartsLemmas
pub mod OneWord
pub mod FirstNumber
