pub mod KnownContent
pub mod Outside
pub mod Gets
pub mod Sinks
pub mod Shelves
pub mod Folder
