pub mod InputBufferLaws
pub mod Awaited
pub mod ProgressLaws
pub mod DecodeLonger
pub mod PlayLonger
pub mod PiecesLaws
pub mod PiecesLoop
pub mod FreshLaws
