-- Inner. The files of definitions, lowest first.
pub mod Told
pub mod Story
pub mod World
pub mod Ledger
pub mod Settled
pub mod Laws
pub mod Agreed
pub mod Findings
pub mod Origins
pub mod Uses
pub mod Discipline
pub mod Keeps
pub mod Branch
pub mod Under
pub mod Reopened
pub mod Wearing
pub mod Polite
