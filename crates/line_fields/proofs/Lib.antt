pub mod WordLaws
pub mod WritingLaws
pub mod NumberLaws
pub mod OctetLaws
pub mod IdentityLaws
pub mod FieldLaws
pub mod SpacelessLaws
