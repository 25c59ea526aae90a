pub mod Gathered
pub mod Joined
pub mod Laws
pub mod LineOrder
pub mod Named
pub mod Needs
pub mod Paths
pub mod Sums
