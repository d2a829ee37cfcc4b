-- The theorems on the exported entries, and examples.
pub mod ExportTheorems
pub mod Examples
