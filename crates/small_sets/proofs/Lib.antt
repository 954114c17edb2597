pub mod Table
pub mod TableRequests
pub mod TableWriter
pub mod TableTraces
