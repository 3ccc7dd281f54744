-- Inner. What a job is to do, and how much of it.
pub mod Body
pub mod Keeping
pub mod Job
pub mod Serving
