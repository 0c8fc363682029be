pub mod Checks
pub mod Laws
pub mod Refusals
pub mod Resolved
pub mod Selection
pub mod Views
pub mod WebGpu
