-- The laws of the entry's verdict, its theorems, and examples.
pub mod SlackLaws
pub mod SlacksTheorems
pub mod Examples
