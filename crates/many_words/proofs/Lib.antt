mod BothParts
mod ByteProducts
mod ByteSums
mod FirstPlaces
mod FourImages
mod ImageInverses
mod MapSteps
mod MappedWords
mod NumberParts
mod PlacesPut
mod PowerPlaces
mod ScalarImages
mod ScaledBytes
mod TableLanes
pub mod WordDots
pub mod WordNumbers
mod WrittenBytes
