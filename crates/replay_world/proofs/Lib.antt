mod AskedLaws
mod GoingLaws
mod Joins
mod ServedLaws
mod OwnedLaws
pub mod PlayedLaws
