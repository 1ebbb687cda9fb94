-- The logic: formulas and their classes, facts, obligations, the rules of the steps, the walk over them, and the Kripke models.
pub mod Form
pub mod Facts
pub mod Held
pub mod Obligation
pub mod Derivation
pub mod Room
pub mod Walk
pub mod Models
