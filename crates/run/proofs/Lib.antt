-- The laws of calls, of frames and of a run's history.
pub mod SentLaws
pub mod CallLaws
pub mod FrameLaws
pub mod Moments
pub mod HistoryLaws
