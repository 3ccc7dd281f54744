-- Inner. The files of definitions, lowest first.
pub mod Rule
pub mod Refusal
pub mod Translated
pub mod NameRules
pub mod MappedNames
pub mod Index
pub mod Laws
