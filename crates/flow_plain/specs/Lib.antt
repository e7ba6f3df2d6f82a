pub mod PlainGraphs
pub mod PrintableGraphs
pub mod Laws
