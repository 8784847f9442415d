pub mod Asking
pub mod BookAnswers
pub mod EntryLemmas
pub mod Passed
pub mod Placed
pub mod PoolAnswers
