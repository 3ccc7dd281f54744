pub mod EditParts
pub mod Listed
pub mod TreePaths
