pub mod Readings
pub mod RecordLength
pub mod Walks
