-- Inner. The files of definitions, lowest first.
pub mod Change
pub mod Tables
pub mod Rows
pub mod Outcome
pub mod LiveAfter
pub mod Store
pub mod Index
pub mod Happens
pub mod Kept
pub mod Effect
pub mod Pending
pub mod Answers
pub mod Laws
pub mod Determined
