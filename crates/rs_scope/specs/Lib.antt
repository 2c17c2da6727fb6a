pub mod DenialOf
pub mod Denials
pub mod Predicates
pub mod Scope
