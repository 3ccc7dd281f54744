-- Inner. The files of definitions, lowest first.
pub mod Rows
pub mod Above
pub mod Same
pub mod Index
