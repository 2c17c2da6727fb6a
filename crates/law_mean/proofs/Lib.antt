mod LawEffects
mod LawIndexes
mod LawKept
mod LawKinds
mod LawLimits
mod LawRows
mod LawShown
mod LawStatements
mod LawStays
mod LawSynonyms
mod LawTables
mod LawTests
mod LawTouches
mod LawTyped
pub mod Lawful
