mod ShareLines
mod Entries
mod OneReading
mod TextRecords
