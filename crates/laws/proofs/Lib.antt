pub mod Find
pub mod Kept
pub mod Lookup
pub mod Next
pub mod Walk
pub mod Worked
