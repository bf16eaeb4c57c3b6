pub mod Examples
pub mod Division
pub mod DecimalDigits
pub mod Lists
pub mod SameSources
pub mod Sameness
