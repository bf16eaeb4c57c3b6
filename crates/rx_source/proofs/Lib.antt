pub mod StartingOrder
pub mod SameValues
