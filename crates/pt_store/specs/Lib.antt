-- Inner. The files of definitions, lowest first.
pub mod Kept
pub mod StoreState
pub mod SeatCalls
