-- Inner. The files of definitions, lowest first.
pub mod Number
pub mod ByteWord
pub mod Words
pub mod Laws
