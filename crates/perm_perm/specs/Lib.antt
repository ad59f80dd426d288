pub mod Order
pub mod Adaptation
pub mod Types
pub mod Laws
