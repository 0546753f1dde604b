-- painting in rectangles of the screen
mod Painted
-- what a journal leaves: windows, clients, places of commands, runs of textures, what scripts bind
mod Windows
mod Clients
mod Places
mod Inside
mod Bindings
-- one entry more: the opening, each kind of entry, and the runs of commands
mod Opening
mod Steps
mod Loading
mod Ran
-- the shared area
mod Shown
