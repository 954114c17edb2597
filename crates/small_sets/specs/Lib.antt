pub mod SetA
