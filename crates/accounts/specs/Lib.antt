pub mod Histories
pub mod Shown
pub mod Accounts
pub mod Tied
pub mod Whole
pub mod Told
