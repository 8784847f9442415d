pub mod BreakLaws
pub mod ReadLaws
