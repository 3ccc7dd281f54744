-- Inner. The files of definitions, lowest first.
pub mod Steps
pub mod Parts
pub mod Access
pub mod Creating
pub mod Making
pub mod Setting
pub mod Contents
pub mod Requests
