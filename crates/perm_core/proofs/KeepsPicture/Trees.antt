-- From the whole tree to the node of an event, and back.
pub mod TreeEvents
pub mod NodePremises
pub mod ForkPremises
pub mod WholeTrees
