pub mod CellTests
pub mod Numbers
pub mod EdgeViews
pub mod EdgeTables
pub mod GraphRows
pub mod Working
