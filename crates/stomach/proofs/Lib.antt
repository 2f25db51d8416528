pub mod Looking
pub mod Items
pub mod Finishing
