mod DigitTables
pub mod Readers
pub mod PlainTexts
pub mod HostReaders
pub mod SessionReaders
pub mod AnswerReaders
pub mod Apart
pub mod ActReaders
pub mod Values
