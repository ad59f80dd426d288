-- That the printer writes the canonical text: parts, what they fit and how much work they are, and the order of members.
pub mod Fits
pub mod Members
pub mod StableSorts
pub mod Stacks
pub mod Steps
pub mod Texts
