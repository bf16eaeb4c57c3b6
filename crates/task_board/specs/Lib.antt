pub mod Board
pub mod inner
