-- The steps of methods are emitted as their codes go.
pub mod Forms
pub mod Methods
pub mod Names
pub mod Paths
pub mod Says
pub mod Sets
pub mod Statements
