pub mod MemberCodes
