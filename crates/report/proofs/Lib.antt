-- The laws behind the contracts: how long a report is, and the line of the lowest rate, how much of an input they read,
-- and what is promised.
pub mod ReportLengths
pub mod ReportFits
pub mod RateLineFits
pub mod LongInput
pub mod PartnerFits
pub mod SecondSet
pub mod Promised
