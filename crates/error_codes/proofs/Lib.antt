mod ShareProducts
mod Interpolating
mod Loops
mod Secrecy
mod RightShares
mod Located
mod NearShares
pub mod Marks
pub mod CodeValues
pub mod Encoding
pub mod Orders
pub mod Products
pub mod Agreement
pub mod Lists
pub mod Decoding
pub mod Secrets
pub mod Moments
pub mod Checks
pub mod Degrees
pub mod Euclid
pub mod Duals
pub mod Counts
pub mod Generators
pub mod Divisions
pub mod Erasures
pub mod FewerShares
pub mod Registers
pub mod Massey
pub mod MasseySteps
pub mod ShortRegisters
pub mod Sifting
pub mod Differences
pub mod Suspects
pub mod Marking
pub mod Meanings
pub mod Candidates
pub mod DualBytes
pub mod WordColumns
pub mod LaneRegisters
pub mod CleanWords
pub mod NibbleFields
pub mod NibbleWords
pub mod NibbleCalls
pub mod FieldSymbols
pub mod FieldRows
pub mod FieldMeanings
pub mod FieldRegisters
pub mod FieldEncoding
pub mod FieldPowers
pub mod BinaryCodes
pub mod ByteWords
pub mod TurnedValues
