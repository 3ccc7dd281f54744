-- Inner. The files of definitions, lowest first.
pub mod Length
