pub mod Line
pub mod Laws
pub mod Metered
pub mod Queued
pub mod QueuedLaws
