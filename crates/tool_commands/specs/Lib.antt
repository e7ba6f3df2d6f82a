pub mod Numbers
pub mod Commands
pub mod ProgramWords
pub mod StoreWords
