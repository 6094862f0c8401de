pub mod CallLists
pub mod Candidates
pub mod Checks
pub mod JoinedLemmas
pub mod ManyCalls
pub mod SeedLemmas
