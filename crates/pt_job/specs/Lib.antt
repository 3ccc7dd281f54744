-- Inner. The files of definitions, lowest first.
pub mod Requests
pub mod Pattern
pub mod Laws
pub mod Access
pub mod Served
pub mod Machine
