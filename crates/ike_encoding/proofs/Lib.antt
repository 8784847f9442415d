pub mod WrittenLaws
