pub mod Causes
pub mod Files
pub mod Bytes
pub mod MemFiles
pub mod Memory
pub mod MemSink
pub mod SureFiles
pub mod CountSink
