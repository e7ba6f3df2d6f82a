pub mod Frames
pub mod Theories
pub mod SmallStrings
pub mod StoreStrings
