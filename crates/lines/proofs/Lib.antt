-- The laws behind the contracts, in the order in which they build on each other: a number's digits, four at a time, and
-- put before a place from the last to the first; a loop that goes from the last item to the first; the texts that the
-- loops write; the lines that answers and rows make.
mod InFours
mod FromTheEnd
mod FromTheLast
mod Texts
mod Answered
