-- Rising sets in slices; the laws stand in proofs/.
pub mod RisingSets
pub mod Slices
pub mod Growing
