pub mod Calls
pub mod Challengers
pub mod Joined
pub mod Sampled
pub mod Seeds
pub mod Tags
pub mod lemmas
