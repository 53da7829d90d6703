-- what a reader of the contracts must believe

-- the kinds of steps, and which of two steps is the first
pub mod Steps
-- a session: its steps that are not done, and its lock
pub mod Sessions
-- the six cases of the rule of rounds
pub mod Rounds
-- the sessions after a round, and the lock of each
pub mod Done
-- the sessions before the first round, by the steps of a script
pub mod Script
-- what the laws say
pub mod Laws
-- what serves private contracts

-- steps put one after the other into the sessions
pub mod Placing
