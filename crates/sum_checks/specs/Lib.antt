pub mod Products
pub mod Refusals
pub mod Sumcheck
pub mod SumcheckClaims
pub mod SumcheckRuns
pub mod Terms
pub mod ZeroCheck
pub mod ZeroCheckRuns
