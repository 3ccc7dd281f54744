-- Inner. The files of definitions, lowest first.
pub mod Fields
pub mod Naming
pub mod Numbers
pub mod Handles
pub mod Contents
pub mod Making
pub mod Attributes
pub mod Xattrs
pub mod Parted
pub mod Request
