pub mod Precedence
pub mod Places
pub mod Choice
pub mod Nodes
