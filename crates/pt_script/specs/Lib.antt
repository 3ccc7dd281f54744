-- Inner. The files of definitions, lowest first.
pub mod NewObjects
pub mod TreeLine
pub mod Edit
pub mod Switches
pub mod Settings
pub mod IdRules
pub mod NameRules
pub mod SettingLine
pub mod Line
pub mod Jobs
pub mod Script
pub mod Begins
pub mod Scan
pub mod Parse
pub mod FirstBad
