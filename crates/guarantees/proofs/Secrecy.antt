-- What the rules guarantee of a host session: demand 3, `secrecy` of Theorem.antt, and of what performs such sessions, `acts_secret` of Acts.antt; of a
-- host's DELETE_TREE, `tree_hides` of Trees.antt; of the rent after such sessions, `rent_alike` of Rent.antt.
pub mod Closed
pub mod StepsAlike
pub mod Opened
pub mod Plans
pub mod Trees
pub mod Sessions
pub mod Theorem
pub mod Acts
pub mod Rent
pub mod Example
