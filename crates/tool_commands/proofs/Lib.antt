pub mod StoreValues
