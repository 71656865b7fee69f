pub mod OneReport
pub mod Numbers
pub mod ReportThere
pub mod Telling
