pub mod NumberedValues
pub mod Changing
