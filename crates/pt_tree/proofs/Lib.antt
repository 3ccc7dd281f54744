pub mod StartLines
pub mod TreeLines
