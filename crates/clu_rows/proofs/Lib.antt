pub mod TwoSets
mod NameCounts
pub mod Duality
pub mod ClassBound
pub mod Steps
pub mod Signs
pub mod Next
pub mod Tried
pub mod Walk
pub mod Maximal
pub mod Sizes
pub mod HitLaws
pub mod Adding
pub mod Spent
pub mod Sound
pub mod PackSizes
pub mod PackBound
pub mod Thirds
pub mod NearLaws
mod FlatLaws
mod FaultLaws
mod RowLaws
pub mod BoundLaws
