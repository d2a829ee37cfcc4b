-- The laws of sets that are made in halves.
pub mod HalfLaws
