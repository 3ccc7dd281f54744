pub mod Stepping
pub mod Keeping
pub mod Walking
mod Lists
mod Entries
