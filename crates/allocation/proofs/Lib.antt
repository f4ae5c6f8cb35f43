pub mod Nearest
pub mod Outward
pub mod Collecting
pub mod Taking
pub mod Shared
pub mod Allocating
pub mod Listing
pub mod Contig
