pub mod LegalRecords
pub mod RecordTexts
