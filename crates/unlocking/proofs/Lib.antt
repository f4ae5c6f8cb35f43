pub mod Fitting
pub mod Keeping
pub mod Queueing
pub mod Leaders
pub mod Answering
