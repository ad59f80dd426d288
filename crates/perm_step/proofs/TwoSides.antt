-- The fork and the join of a par.
pub mod ParForms
pub mod ParClaims
pub mod JoinEnds
pub mod JoinMade
pub mod JoinMerging
pub mod JoinVariables
