pub mod LastTold
mod Listed
mod Members
mod Numbers
mod Removed
mod Whole
