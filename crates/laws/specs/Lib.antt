pub mod Sizes
pub mod FindLaws
pub mod LookupLaws
pub mod NextLaws
pub mod LengthLaws
pub mod SizedLaws
pub mod Cases
