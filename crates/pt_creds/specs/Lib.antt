-- Inner. The files of definitions, lowest first.
pub mod Calls
pub mod Identity
pub mod Steps
pub mod Guard
pub mod Setting
pub mod Progress
pub mod Caps
pub mod Umask
