pub mod Walking
pub mod Forms
pub mod KeyValues
pub mod Taken
pub mod SiteCounts
pub mod LentOut
