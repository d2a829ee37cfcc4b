-- Document 01's words: tables, lines and slacks, refusals, rules, schedules; and the sums of all lines, and what is searched in a row.

pub mod Tables
pub mod Rooms
pub mod Lines
pub mod LineSums
pub mod Refusals
pub mod RowSearches
pub mod Checks
pub mod Rules
pub mod Schedules
