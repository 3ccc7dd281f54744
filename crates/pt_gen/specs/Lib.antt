-- Inner. The files of definitions, lowest first.
pub mod Draws
pub mod Generated
