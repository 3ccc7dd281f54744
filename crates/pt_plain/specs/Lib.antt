-- Inner. The files of definitions, lowest first.
pub mod Plain
pub mod Serves
pub mod Run
pub mod Whole
