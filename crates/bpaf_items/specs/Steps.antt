-- Definitions that only lead from the code to what its contracts promise.
pub mod Growth
pub mod Given
pub mod Codes
pub mod KeyOrder
