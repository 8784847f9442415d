pub mod BreakLaws
pub mod FrontLaws
pub mod PieceLaws
pub mod ReadLaws
