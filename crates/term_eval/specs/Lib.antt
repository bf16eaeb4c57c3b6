pub mod Told
pub mod Lent
pub mod Claims
pub mod Evals
pub mod Bodies
pub mod KeysTold
pub mod Tickets
pub mod inner
