pub mod Early
pub mod Walks
pub mod KeyedBy
