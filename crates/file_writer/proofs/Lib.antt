-- The laws of the file's bytes, of the writer's verdict and of the round trip, the theorems, and examples by computation.
pub mod SearchLaws
pub mod WideLaws
pub mod ByteLaws
pub mod PutLaws
pub mod WriteLaws
pub mod RoundTripLaws
pub mod WriteTheorems
pub mod Examples
