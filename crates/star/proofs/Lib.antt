-- The laws of tables that are filled and copied, of lines and their crossings, of stores, of line sums in one pass, of slacks and refusals, of searches in a row, of schedules within
-- capacities, and of tables that are alike; and examples.
pub mod SignedLaws
pub mod TableLaws
pub mod LineLaws
pub mod CrossingLaws
pub mod StoreLaws
pub mod SumLaws
pub mod RefusalLaws
pub mod RowSearchLaws
pub mod ScheduleLaws
pub mod AlikeLaws
pub mod Examples
