pub mod Rings
pub mod Shares
pub mod Starts
pub mod Lists
