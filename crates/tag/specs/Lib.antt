pub mod Choice
pub mod Input
pub mod Stream
