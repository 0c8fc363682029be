pub mod Accepted
pub mod Check
pub mod Checks
pub mod ClearViews
pub mod Refusals
pub mod WebGpu
