pub mod WordReading
pub mod DropReading
pub mod OriginReading
pub mod CallReading
pub mod VerdictReading
pub mod LineReading
pub mod WritingLaws
pub mod RangeLaws
