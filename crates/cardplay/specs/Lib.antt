pub mod InputBuffer
pub mod Progress
pub mod Pieces
