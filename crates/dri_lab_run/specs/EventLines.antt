-- What each item of a scene's schedule, and of the rounds behind it, brings: a line with its event, and with the lock word and the
-- queue after it.
use Rattle.std.specs.Prelude.{◌≡◌, ℕ, ◌<◌, ◌-◌, List, [], ◌∷◌, ◌++◌, map, codes, nat_lt, if◌then◌else◌, Option, Some, None}
use Rattle.std.specs.Fmt.{decimal}
use Rattle.dri_base.specs.declared.command.Item.{Item}
use Rattle.dri_base.specs.declared.command.Item.TheVariants as Item_is
use Rattle.dri_base.specs.declared.journal.Entry.{Entry}
use Rattle.dri_base.specs.declared.journal.Entry.TheVariants as Entry_is
use Rattle.dri_base.specs.declared.journal.Event.{Event}
use Rattle.dri_base.specs.declared.journal.Event.TheVariants as Event_is
use Rattle.dri_base.specs.declared.scene.Scene.{Scene}
use Rattle.dri_core.specs.CoreRuns.{after_events}
use Rattle.dri_core.specs.Cores.{Core, opening_core, word_number}
use Rattle.dri_core.specs.Turns.{core_after, item_event, played, round, rounds}
use Rattle.dri_journal.specs.Journals.{entry_numbers, entry_word}
use Rattle.dri_scene.specs.Texts.{Adds}
use Rattle.dri_words.specs.Lines.{line_bytes}
use Rattle.dri_lab_run.specs.declared.status.LabStatus.{LabStatus}

-- the words of an entry, as in its line of the journal
abbrev pub entry_words : Entry → List (List ℕ)
entry_words e = entry_word e ∷ map decimal (entry_numbers e)

-- the words of an event: those of its entry, but for a leave through the kernel and for what is in no journal
abbrev pub event_words : Event → List (List ℕ)
event_words (Event_is.Light c) = entry_words (Entry_is.Light c)
event_words (Event_is.Kernel c found) = entry_words (Entry_is.Kernel c found)
event_words (Event_is.Stale c) = entry_words (Entry_is.Stale c)
event_words (Event_is.Emit c groups) = entry_words (Entry_is.Emit c groups)
event_words (Event_is.Place c t first count) = entry_words (Entry_is.Place c t first count)
event_words (Event_is.Run c i) = entry_words (Entry_is.Run c i)
event_words (Event_is.Info c) = entry_words (Entry_is.Info c)
event_words (Event_is.Change i) = entry_words (Entry_is.Change i)
event_words (Event_is.Gone c) = entry_words (Entry_is.Gone c)
event_words (Event_is.LeaveLight c) = entry_words (Entry_is.Leave c)
event_words (Event_is.LeaveKernel c) = codes "leave_kernel" ∷ decimal c ∷ []
event_words (Event_is.Queue a) = codes "queue" ∷ decimal a ∷ []
event_words (Event_is.Mark a) = codes "mark" ∷ decimal a ∷ []
event_words (Event_is.Stop c) = codes "stop" ∷ decimal c ∷ []

-- what an item brought
abbrev pub made_words : Option Event → List (List ℕ)
made_words None = codes "passed" ∷ []
made_words (Some e) = event_words e

-- an item's first word
abbrev pub item_name : Item → List ℕ
item_name (Item_is.Turn a) = codes "turn"
item_name (Item_is.Kill c) = codes "kill"

-- whose turn it is, or whom it kills
abbrev pub item_number : Item → ℕ
item_number (Item_is.Turn a) = a
item_number (Item_is.Kill c) = c

-- a lock word without bit 31, of which bit 30 says contended, and the rest is a context
abbrev pub unheld_words : ℕ → List (List ℕ)
unheld_words n = if nat_lt n 0x40000000 then decimal n ∷ [] else codes "contended" ∷ decimal (n - 0x40000000) ∷ []

-- a lock word, of which bit 31 says held
abbrev pub word_words : ℕ → List (List ℕ)
word_words n = if nat_lt n 0x80000000 then unheld_words n else codes "held" ∷ unheld_words (n - 0x80000000)

-- the lock word, and the actors that wait, the first first
abbrev pub lock_words : ℕ → List ℕ → List (List ℕ)
lock_words number queue = codes "word" ∷ (word_words number ++ (codes "queue" ∷ map decimal queue))

-- a line: an item, what it brought, and the lock after it
abbrev pub line_of_item : Item → Option Event → Core → List ℕ
line_of_item item made k = line_bytes (item_name item ∷ decimal (item_number item) ∷ (made_words made ++ lock_words (word_number k.word) k.queue))

-- the line of an item that is taken at a core
abbrev pub item_line : Scene → Core → Item → List ℕ
item_line s k item = line_of_item item (item_event s k item) (core_after s k (item_event s k item))

-- the lines of items, taken one after another from a core on
abbrev pub item_lines : Scene → Core → List Item → List ℕ
item_lines s k [] = []
item_lines s k (item ∷ items) = item_line s k item ++ item_lines s (core_after s k (item_event s k item)) items

-- the core after items
abbrev pub core_behind : Scene → Core → List Item → Core
core_behind s k items = after_events s k (played s k items)

-- from a core on so many rounds make an event each, and one more would make none
pub record AreRounds (s : Scene) (k : Core) (number : ℕ) : Type 0 where
  pub busy : (n : ℕ) → n < number → played s (core_behind s k (rounds s n)) (round s) ≡ [] → ⊥
  pub idle : played s (core_behind s k (rounds s number)) (round s) ≡ []

-- these rounds were taken from a core on, and their lines put behind a text
pub record PutRounds (s : Scene) (k : Core) (before after : List ℕ) : Type 0 where
  pub number : ℕ
  pub are : AreRounds s k number
  pub put : Adds before (item_lines s k (rounds s number)) after

-- the picture gains the lines of the schedule's items and of the rounds behind them up to the last that makes an event, and the notes nothing
pub record GivesEvents (s : Scene) (image text : List ℕ) : Type 0 where
  pub number : ℕ
  pub are : AreRounds s (core_behind s (opening_core s) s.turns) number
  pub picture : image ≡ item_lines s (opening_core s) (s.turns ++ rounds s number)
  pub notes : text ≡ []

-- no scene is refused
abbrev pub RefusesNone : Scene → LabStatus → Type 0
RefusesNone s status = ⊥
