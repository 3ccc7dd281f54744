-- Inner. The files of definitions, lowest first.
pub mod Command
pub mod Streams
pub mod Told
pub mod Output
pub mod Passing
pub mod TableLines
pub mod Report
pub mod Status
pub mod Configured
pub mod Filled
pub mod Sized
pub mod Run
pub mod Counts
pub mod Counted
pub mod Reported
pub mod Determined
pub mod Alike
