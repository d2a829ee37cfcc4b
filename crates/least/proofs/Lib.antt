-- The laws of the least rule, and examples by computation.
pub mod Withdrawals
pub mod Remains
pub mod Ranks
pub mod Shares
pub mod Keeping
pub mod Counts
pub mod LeastIsLeast
pub mod Rewritings
pub mod Cutting
pub mod Examples
