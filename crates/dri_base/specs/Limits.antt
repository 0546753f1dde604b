-- Numbers that several crates speak of, each with its reason.
use Rattle.std.specs.Prelude.{ℕ}

-- the numbers of 32 bits are those below it
abbrev pub word_end : ℕ
word_end = 4294967296

-- the highest stamp after which the windows may change: a change gives at most 64 new stamps, and a stamp has 32 bits
abbrev pub last_stamp : ℕ
last_stamp = 4294967231

-- the highest age after which a texture may be used or placed: each makes the age one more, and an age has 32 bits, whose
-- numbers reach beyond this round one
abbrev pub last_age : ℕ
last_age = 4294967000

-- the most pixels along a side of the screen or of a window; so far a window's corner may lie from the screen's
abbrev pub most_side : ℕ
most_side = 1024

-- how far from its window's corner a scissor may reach: to what lies beyond the largest window
abbrev pub most_scissor : ℕ
most_scissor = 2048

-- the most commands of all clients together
abbrev pub most_commands : ℕ
most_commands = 100000

-- the most changes of the server
abbrev pub most_changes : ℕ
most_changes = 4096

-- the most items of a schedule
abbrev pub most_items : ℕ
most_items = 1000000
