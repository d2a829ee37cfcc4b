-- The laws of placing: writing and rounds.
pub mod WriteLaws
pub mod RoundLaws
