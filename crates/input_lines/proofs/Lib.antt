pub mod FrontLaws
pub mod LimitLaws
pub mod FirstLines
mod PieceLaws
pub mod TakenLines
