pub mod NothingWanted
