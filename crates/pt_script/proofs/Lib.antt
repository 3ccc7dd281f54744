pub mod LinesLemmas
pub mod Scripts
pub mod Seated
pub mod FirstBads
