pub mod Places
pub mod FreeTable
pub mod NamesFrom
pub mod NewPlaces
pub mod NumberTables
pub mod PathParts
