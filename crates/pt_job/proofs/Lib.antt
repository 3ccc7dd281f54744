pub mod Beginning
pub mod Walking
pub mod Answering
pub mod TakenWhole
