pub mod Requests
pub mod Verdicts
