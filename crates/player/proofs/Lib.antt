pub mod TurnPlayed
pub mod Playing
