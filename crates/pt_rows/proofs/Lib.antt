pub mod Lists
pub mod Alone
pub mod Orders
pub mod Indexing
pub mod Entries
pub mod Seen
pub mod Stores
pub mod Classes
