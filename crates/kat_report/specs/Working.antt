pub mod JsonValues
pub mod SumParts
