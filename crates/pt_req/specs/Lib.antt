-- Inner. The files of definitions, lowest first.
pub mod Plan
pub mod Named
pub mod Options
pub mod Steps
pub mod Entries
pub mod Attributes
pub mod Capability
pub mod Parts
pub mod Asker
pub mod Requests
