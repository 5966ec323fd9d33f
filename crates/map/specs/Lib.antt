pub mod Map
pub mod Named
pub mod Texts
