-- entries of a client, one after the other
pub mod Working
-- one event, in the value and in its client
mod Made
-- what a hold finds, and a client by its pass between two holds
mod Found
mod Standing
-- all passes and clients of a run, and the whole journal
mod Rounds
pub mod Wholes
