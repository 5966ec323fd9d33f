pub mod Ring
pub mod Marks
pub mod Items
pub mod Rows
pub mod Spans
pub mod Laws
