-- The laws of turns: levels, what is heard, what is taken, and what a turn leaves to the next.
pub mod LevelLaws
pub mod HearLaws
pub mod TakeLaws
pub mod TurnLaws
pub mod Examples
