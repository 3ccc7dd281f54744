-- Inner. The files of definitions, lowest first.
pub mod Deed
pub mod Held
pub mod Replies
pub mod Grammar
pub mod Frame
pub mod Tree
pub mod Edit
pub mod Made
pub mod Seats
pub mod Past
pub mod Tended
pub mod Determined
pub mod Memory
pub mod Sparing
pub mod Machine
