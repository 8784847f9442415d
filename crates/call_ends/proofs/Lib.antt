pub mod WriteLaws
pub mod StreamLaws
