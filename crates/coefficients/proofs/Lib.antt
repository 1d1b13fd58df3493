-- The laws behind the contracts, in the order in which they build on each other.

-- The set in use, and its rows.
pub mod Lent
pub mod InRows
-- A book with a second set written over its own: its bytes, its fields, its grounds.
pub mod BytesOver
pub mod GroupsOver
pub mod WrittenFields
pub mod WrittenFeeds
pub mod WrittenZeros
pub mod WrittenNumbers
pub mod WrittenGrounds
pub mod WrittenOver
