-- Inner. The files of definitions, lowest first.
pub mod Cause
pub mod Fit
pub mod Entered
pub mod Created
pub mod Handled
pub mod Answered
pub mod Uses
pub mod Asker
pub mod Decided
