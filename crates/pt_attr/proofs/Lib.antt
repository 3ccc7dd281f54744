pub mod Keeping
pub mod Replying
pub mod Walking
