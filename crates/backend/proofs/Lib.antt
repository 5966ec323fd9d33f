pub mod Equal
pub mod Listed
