pub mod Effects
pub mod EffectsLaws
