pub mod Positions
pub mod Laws
pub mod Search
pub mod Vacant
pub mod Entries
