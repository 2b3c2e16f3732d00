-- What a reader signs, from the smallest word to the book
pub mod Front
pub mod Digits
pub mod Book
pub mod Tries
pub mod Searching
pub mod Records
pub mod Replies
pub mod Calls
pub mod Step
pub mod FromTries
-- The store, the promises of the four calls, and lists of calls
pub mod Image
pub mod Good
pub mod Promises
pub mod Ran
-- What is proved
pub mod Demand3
pub mod Accepted
pub mod InWords
pub mod Overflow
-- Worked by computation
pub mod Computing
pub mod Worked
pub mod Fields
