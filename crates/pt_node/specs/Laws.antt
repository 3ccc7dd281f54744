-- Proof. What holds of nodes, lists and names, for proofs alone.
pub mod Updates
pub mod ChangedThere
pub mod NameOrder
