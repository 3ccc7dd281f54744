pub mod Making
pub mod Seats
pub mod Returning
pub mod Settings
mod Answered
