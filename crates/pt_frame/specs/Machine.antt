-- Inner. The job machine: what is left of a job in its frame, and how much of it.
pub mod Brings
pub mod Walk
pub mod Room
pub mod Left
pub mod Enters
pub mod Ahead
pub mod Job
