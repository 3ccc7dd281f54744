pub mod PairsRead
pub mod PlacesRead
pub mod ShortNumbers
