pub mod Clearing
pub mod Digits
pub mod Every
pub mod Rows
pub mod SameFormat
pub mod SameRange
