-- What a seat knows, and how each step changes it.
use Rattle.std.specs.Prelude.{ℕ, ◌+◌, List, [], ◌∷◌, ◌++◌, Option, None}
use Rattle.dri_hwlock.specs.declared.view.View.{View}
use Rattle.dri_hwlock.specs.declared.view.Stage.{Stage}
use Rattle.dri_hwlock.specs.declared.view.Stage.TheVariants.{Idle, LightFailed, LeftLightly, Holding, ValueHome, JoinedAway}

-- The tests on stages give 1 or 0, for arithmetic decides on these.

-- in a hold, with the value or with the value home
abbrev pub is_in_hold : Stage → ℕ
is_in_hold (Holding name) = 1
is_in_hold (ValueHome name closer) = 1
is_in_hold _ = 0

-- in a hold that has put the value home
abbrev pub is_value_home : Stage → ℕ
is_value_home (ValueHome name closer) = 1
is_value_home _ = 0

-- a pass may be in this stage
abbrev pub is_at_rest : Stage → ℕ
is_at_rest Idle = 1
is_at_rest LeftLightly = 1
is_at_rest _ = 0

-- in no hold, and not joined away
abbrev pub is_outside : Stage → ℕ
is_outside Idle = 1
is_outside LeftLightly = 1
is_outside LightFailed = 1
is_outside _ = 0

-- the last hold ended by a light leave
abbrev pub is_left_lightly : Stage → ℕ
is_left_lightly LeftLightly = 1
is_left_lightly _ = 0

abbrev pub is_joined_away : Stage → ℕ
is_joined_away JoinedAway = 1
is_joined_away _ = 0

-- the context that the held word names
abbrev pub name_in : Stage → ℕ
name_in (Holding name) = name
name_in (ValueHome name closer) = name
name_in _ = 0

module _ {B E : Type 0} where
  -- the view of a seat that was just made
  abbrev pub new_view : Option B → ℕ → ℕ → ℕ → View B E
  new_view b passes context seats_made = record { base = b; context = context; passes = passes; stage = Idle; seen = []; others_seen = []; looks = 0; last_word = 0; word_before = 0; seats_made = seats_made; seats_joined = 0 }

  -- after a look that found this word
  abbrev pub with_look : View B E → ℕ → View B E
  with_look v word = record v { looks = v.looks + 1; last_word = word; word_before = v.last_word }

  abbrev pub in_stage : View B E → Stage → View B E
  in_stage v stage = record v { stage = stage }

  -- in a hold that took the value, with these entries, by a look that found this word
  abbrev pub with_value_out : View B E → ℕ → ℕ → List E → View B E
  with_value_out v word name entries = record (with_look v word) { stage = Holding name; seen = entries }

  -- in a hold that has put the value home, with these entries and this closer
  abbrev pub with_value_home : View B E → ℕ → ℕ → List E → View B E
  with_value_home v name closer entries = record v { stage = ValueHome name closer; seen = entries }

  -- the seat of context 1, after it has made another
  abbrev pub with_seat_made : View B E → View B E
  with_seat_made v = record v { seats_made = v.seats_made + 1 }

  -- the seat that it made
  abbrev pub next_view : View B E → View B E
  next_view v = new_view v.base v.passes (v.seats_made + 1) 0

  -- after the seat with the view w was joined to it
  abbrev pub with_joined : View B E → View B E → View B E
  with_joined v w = record v { others_seen = v.others_seen ++ w.seen ∷ w.others_seen; seats_joined = v.seats_joined + w.seats_joined + 1 }

  -- the view of a seat that was joined to another
  abbrev pub spent_view : View B E
  spent_view = record { base = None; context = 0; passes = 0; stage = JoinedAway; seen = []; others_seen = []; looks = 0; last_word = 0; word_before = 0; seats_made = 0; seats_joined = 0 }

  -- a view that no seat has: it has no base, and wasn't joined away
  abbrev pub no_view : View B E
  no_view = record spent_view { stage = Idle }

  -- how many seats were joined away
  abbrev pub joined_away_in : List (View B E) → ℕ
  joined_away_in [] = 0
  joined_away_in (v ∷ vs) = is_joined_away v.stage + joined_away_in vs

  -- how many seats the others say that they took in
  abbrev pub taken_in : List (View B E) → ℕ
  taken_in [] = 0
  taken_in (v ∷ vs) = v.seats_joined + taken_in vs
