-- the queue
mod Places
