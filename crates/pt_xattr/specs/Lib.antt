-- Inner. The files of definitions, lowest first.
pub mod Steps
pub mod Listed
pub mod Given
pub mod Parts
pub mod Requests
