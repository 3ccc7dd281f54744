-- Inner. The files of definitions, lowest first.
pub mod Contents
pub mod Accesses
pub mod Told
pub mod New
pub mod Fills
pub mod Run
pub mod Filled
pub mod Whole
