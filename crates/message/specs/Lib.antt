pub mod Meaning
pub mod Reading
pub mod Events
