-- The fair rule, and what the functions that carry it out ask and promise.
pub mod Fair
pub mod Cuts
