pub mod RunLemmas
pub mod ReportLemmas
pub mod Texts
