-- The laws that the proofs of the planner's entries cite.
pub mod KeptLaws
pub mod PlanLaws
pub mod NeededLaws
pub mod CapacityLaws
pub mod PlanTheorems
pub mod Examples
