pub mod FewMethods
pub mod OneCheck
pub mod RefusedBytes
pub mod UnitRefusals
