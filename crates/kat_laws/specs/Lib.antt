pub mod Models
pub mod SmallStrings
pub mod StoreStrings
pub mod Laws
