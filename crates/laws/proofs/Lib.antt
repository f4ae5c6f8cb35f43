pub mod Judged
pub mod Steps
pub mod PointerSteps
pub mod Severing
pub mod Sweeping
pub mod KeepsSound
