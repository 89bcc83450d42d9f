pub mod Rows
pub mod Flat
pub mod Faults
pub mod Prices
pub mod Packing
pub mod Table
