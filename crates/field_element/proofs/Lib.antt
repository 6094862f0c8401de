mod ChangedPlaces
mod NumberDigits
pub mod PlaceProducts
mod TripleBytes
