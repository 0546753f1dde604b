-- What a replay keeps after a new stack: the board, and the counts.
use Rattle.std.proofs.Common.{◌≡◌, ◌<◌, ◌≤◌, ◌+◌, ◌∙◌, ℕ, zero, suc, List, [], ◌∷◌, Bool, true, false, Option, Some, None, length, get_or, refl, sym, ap, subst, arith, inl, inr}
use Rattle.std.specs.Prelude.{◌⊎◌, ◌==◌, ◌&&◌, ◌||◌, AllPairs, IfNone, IfSome, filter, if◌then◌else◌, is_none, is_some, not, slice_get}
use Rattle.std.specs.List.{range_with_len}
use Rattle.std.proofs.lemmas.Bool.{cases_eq, true≢false}
use Rattle.std.proofs.lemmas.Bool.Decides.{nat_tests}
use Rattle.std.proofs.lemmas.Option.{get_or_from_slice_get, slice_get-get_or, slice_get_within}
use Rattle.dri_base.specs.Ranges.{InRange, client_numbers}
use Rattle.dri_base.specs.Scenes.{named_by, script_in, window_of}
use Rattle.dri_base.specs.declared.command.Change.{Change}
use Rattle.dri_base.specs.declared.command.Change.TheVariants.{Map, Unmap, Move, Resize, Raise, Lower}
use Rattle.dri_base.specs.declared.colour.Rgb.{Rgb}
use Rattle.dri_base.specs.declared.journal.Entry.{Entry}
use Rattle.dri_base.specs.declared.scene.ClientScript.{ClientScript}
use Rattle.dri_base.specs.declared.scene.Scene.{Scene}
use Rattle.dri_base.specs.declared.scene.Window.{Window}
use Rattle.dri_base.proofs.RangeLemmas.{owned_window}
use Rattle.dri_clips.specs.Boards.{IsRestacked, Screen}
use Rattle.dri_clips.specs.Paints.{ArePaints, IsCarried, IsTouched, is_whole, moves_whole}
use Rattle.dri_clips.specs.SceneBoards.{IsBoardOf}
use Rattle.dri_clips.specs.declared.touched.Touched.{Touched}
use Rattle.dri_core.specs.EntryTable.{after_entry}
use Rattle.dri_core.specs.Frames.{keeps, keeps_stamp}
use Rattle.dri_core.specs.Frames as Frames
use Rattle.dri_core.specs.Restacks.{counter_after, stamps_after, touched_by}
use Rattle.dri_core.specs.Worlds.{World}
use Rattle.dri_core.proofs.Invariant.{Invariant}
use Rattle.dri_core.proofs.Stamps.{stamp_tells, untouched}
use Rattle.dri_journal.specs.Deeds.{IsTouchedBy, TellsStack, deed_told, whole_window, windows_in}
use Rattle.dri_journal.specs.Tallies.{AreCut, IsTallyOf, has_number, is_cut, standing_in}
use Rattle.dri_journal.specs.declared.tally.Standing.{Standing}
use Rattle.dri_journal.specs.declared.tally.Standing.TheVariants as Standing_is
use Rattle.dri_journal.specs.declared.tally.Tally.{Tally}
use Rattle.dri_journal.proofs.Keeping.{some_one}
use Rattle.dri_core.proofs.Lists.{number_at}
use Rattle.dri_journal.proofs.Whom.{client_in_range}
use Rattle.dri_meaning.specs.Reports as Reports
use Rattle.dri_meaning.specs.Reports.{cut_by, tally_cut}
use Rattle.dri_journal.proofs.Unchanged.{refused_same}
use Rattle.dri_model.specs.Stacks.{Refusal, all_came, changed, is_moved, is_moved_whole, is_touched, moved_by, moves, moves_unless, refusal, stack_after}

-- the board after a new stack
pub board_after : (s : Scene) (w : World) (stack new : List Window) (board board' : Screen) → IsBoardOf s w.stack w.stamps w.counter board → stack ≡ new → IsRestacked stack board board' → IsBoardOf s new (stamps_after s w new) (counter_after s w new) board'
board_after s w stack new board board' b same is = record {
  width = is.width ∙ b.width;
  height = is.height ∙ b.height;
  root = is.root ∙ b.root;
  windows = is.windows ∙ same;
  given = is.stamps ∙ rw (b.width, b.height, b.windows, b.last, b.given, same) refl;
  last = is.counter ∙ rw (b.width, b.height, b.windows, b.last, same) refl;
}

-- and what it touched
pub touched_after : (s : Scene) (w : World) (stack new : List Window) (move moved : Option ℕ) (board : Screen) (touched : Touched) → IsBoardOf s w.stack w.stamps w.counter board → stack ≡ new → move ≡ moved →
    IsTouched board stack move touched → IsTouchedBy s w moved new touched
touched_after s w stack new move moved board touched b same goes is = record {
  windows = is.windows ∙ (λ k. filter (is_touched (b.width k) (b.height k) (b.windows k) (same k)) (range_with_len 0 65));
  carry = on_screen (λ width height root old new moved. IsCarried width height old new moved touched.carry) is.carry;
  whole = on_screen (λ width height root old new moved. is_whole touched ≡ moves_whole width height old new moved) is.whole;
  paints = on_screen (λ width height root old new moved. ArePaints width height root old new moved touched.paints) is.paints;
}
  where
    -- what holds of the board's screen holds of the scene's
    on_screen : (P : ℕ → ℕ → Rgb → List Window → List Window → Option ℕ → Type 0) → P board.width board.height board.root board.stack stack move → P s.width s.height s.root w.stack new moved
    on_screen P holds = subst (λ n. P n s.height s.root w.stack new moved) b.width
        (subst (λ n. P board.width n s.root w.stack new moved) b.height
        (subst (λ r. P board.width board.height r w.stack new moved) b.root
        (subst (λ ws. P board.width board.height board.root ws new moved) b.windows
        (subst (λ ws. P board.width board.height board.root board.stack ws moved) same
        (subst (λ m. P board.width board.height board.root board.stack stack m) goes holds)))))

pub told_after : (s : Scene) (w : World) (stack new : List Window) (move moved : Option ℕ) (board : Screen) (told : Option Touched) → IsBoardOf s w.stack w.stamps w.counter board → stack ≡ new → move ≡ moved →
    IfSome told (IsTouched board stack move) → IfSome told (IsTouchedBy s w moved new)
told_after s w stack new move moved board None b same goes is = tt
told_after s w stack new move moved board (Some touched) b same goes is = touched_after s w stack new move moved board touched b same goes is

-- a change that is refused leaves the stack
pub untold_after : (s : Scene) (w : World) (change : Change) (board : Screen) (told : Option Touched) → IsBoardOf s w.stack w.stamps w.counter board → is_none told ≡ is_some (refusal change board.stack) →
    IfNone told (stack_after change w.stack ≡ w.stack)
untold_after s w change board None b is = refused_same (refusal change w.stack) w.stack (changed change w.stack) (ap (λ ws. is_some (refusal change ws)) (sym b.windows) ∙ sym is)
untold_after s w change board (Some touched) b is = tt

pub tells : (s : Scene) (w : World) (moved : Option ℕ) (new : List Window) (refused : Bool) (told : Option Touched) → IfSome told (IsTouchedBy s w moved new) → is_none told ≡ refused → TellsStack s w moved new refused (deed_told told)
tells s w moved new refused None some is = sym is
tells s w moved new refused (Some touched) some is = (sym is, some)

-- numbers that are listed where they have the property
none_listed : (p : ℕ → Bool) (n a k : ℕ) → n < a → has_number (filter p (range_with_len a k)) n ≡ false
none_listed p n a zero below = refl
none_listed p n a (suc k) below = by_test (p a) refl (none_listed p n (a + 1) k (omega (arith, below)))
  where
    other : (a == n) ≡ false
    other = grind (arith, nat_tests)

    by_test : (b : Bool) → p a ≡ b → has_number (filter p (range_with_len (a + 1) k)) n ≡ false → has_number (filter p (range_with_len a (suc k))) n ≡ false
    by_test true e rest = rw (e, other) rest
    by_test false e rest = rw e rest

listed : (p : ℕ → Bool) (n a k : ℕ) → a ≤ n → n < a + k → has_number (filter p (range_with_len a k)) n ≡ p n
listed p n a zero above below = absurd (omega (arith, above, below))
listed p n a (suc k) above below = by_place (cases_eq n a) (λ ne. listed p n (a + 1) k (omega (arith, above, ne)) (omega (arith, below)))
  where
    here : (a == a) ≡ true
    here = grind (arith, nat_tests)

    first : (b : Bool) → p a ≡ b → has_number (filter p (range_with_len a (suc k))) a ≡ b
    first true e = rw (e, here) refl
    first false e = rw e (none_listed p a (a + 1) k (omega arith))

    by_place : (n ≡ a) ⊎ (n ≡ a → ⊥) → ((n ≡ a → ⊥) → has_number (filter p (range_with_len (a + 1) k)) n ≡ p n) → has_number (filter p (range_with_len a (suc k))) n ≡ p n
    by_place (inl same) rest = rw same (first (p a) refl)
    by_place (inr ne) rest = by_test (p a) refl (rest ne)
      where
        other : (a == n) ≡ false
        other = grind (arith, nat_tests)

        by_test : (b : Bool) → p a ≡ b → has_number (filter p (range_with_len (a + 1) k)) n ≡ p n → has_number (filter p (range_with_len a (suc k))) n ≡ p n
        by_test true e rest = rw (e, other) rest
        by_test false e rest = rw e rest

not_not : (b : Bool) → not (not b) ≡ b
not_not true = refl
not_not false = refl

-- the windows that were told are those to which the entry gives new stamps
stamps_told : (s : Scene) (w : World) (e : Entry) (moved : Option ℕ) (new : List Window) (told : Option Touched) (n : ℕ) → Invariant s w → n ≤ 64 → (after_entry s w e).stack ≡ new → IfSome told (IsTouchedBy s w moved new) → IfNone told (new ≡ w.stack) →
    has_number (windows_in told) n ≡ not (keeps_stamp s w e n)
stamps_told s w e moved new told n inv le stack some none = by_told told some none ∙ sym (ap not kept ∙ not_not (touched_by s w new n))
  where
    kept : keeps_stamp s w e n ≡ not (touched_by s w new n)
    kept = (stamp_tells s w e n inv le).kept ∙ ap (λ ws. not (touched_by s w ws n)) stack

    by_told : (t : Option Touched) → IfSome t (IsTouchedBy s w moved new) → IfNone t (new ≡ w.stack) → has_number (windows_in t) n ≡ touched_by s w new n
    by_told None some none = sym (ap (λ ws. touched_by s w ws n) none ∙ untouched s.width s.height w.stack n)
    by_told (Some touched) some none = ap (λ ns. has_number ns n) some.windows ∙ listed (touched_by s w new) n 0 65 (omega arith) (omega (arith, le))

-- what isn't cut is kept: it has no new stamp, or is moved whole
cut_or_kept : (a b c d : Bool) → a ≡ d → b ≡ not c → (not a && b) ≡ not (c || d)
cut_or_kept true b true true ae be = refl
cut_or_kept true b false true ae be = refl
cut_or_kept false b true false ae be = be
cut_or_kept false b false false ae be = be
cut_or_kept true b c false ae be = absurd (true≢false ae)
cut_or_kept false b c true ae be = absurd (true≢false (sym ae))

-- what is cut is what the entry doesn't keep
pub cuts_told : (s : Scene) (w : World) (e : Entry) (moved : Option ℕ) (new : List Window) (told : Option Touched) (whole : Option ℕ) (n : ℕ) → Invariant s w → n ≤ 64 → (after_entry s w e).stack ≡ new → IfSome told (IsTouchedBy s w moved new) → IfNone told (new ≡ w.stack) →
    is_moved n whole ≡ Frames.moves_whole s w e n → is_cut (windows_in told) whole n ≡ not (keeps s w e n)
cuts_told s w e moved new told whole n inv le stack some none wholes =
    cut_or_kept (is_moved n whole) (has_number (windows_in told) n) (keeps_stamp s w e n) (Frames.moves_whole s w e n) wholes (stamps_told s w e moved new told n inv le stack some none)

-- a change moves the window that it names, if any
moves_named : (change : Change) (m : ℕ) → moves change ≡ Some m → m ≡ named_by change
moves_named (Move n x y) m is = sym (some_one is)
moves_named (Map n) m is = absurd (cc)
moves_named (Unmap n) m is = absurd (cc)
moves_named (Resize n width height) m is = absurd (cc)
moves_named (Raise n) m is = absurd (cc)
moves_named (Lower n) m is = absurd (cc)

-- the window that was moved whole is the one of which the model says so
named_whole : (width height : ℕ) (old new : List Window) (named n : ℕ) (moved : Option ℕ) (whole : Bool) → ((m : ℕ) → moved ≡ Some m → m ≡ named) → whole ≡ moves_whole width height old new moved →
    is_moved n (if whole then Some named else None) ≡ is_moved_whole width height old new moved n
named_whole width height old new named n None whole same is = rw is refl
named_whole width height old new named n (Some m) whole same is = by_window (cases_eq m n)
  where
    self : (m == m) ≡ true
    self = grind (arith, nat_tests)

    both : ℕ → Bool
    both k = all_came width height old new k && all_came width height new old k

    by_all : (b : Bool) → both m ≡ b → whole ≡ b → (m == n) ≡ true → is_moved n (if whole then Some named else None) ≡ is_moved_whole width height old new (Some m) m
    by_all true all is same_number = rw (is, self, all, sym (same m refl)) same_number
    by_all false all is same_number = rw (is, self, all) refl

    by_window : (m ≡ n) ⊎ (m ≡ n → ⊥) → is_moved n (if whole then Some named else None) ≡ is_moved_whole width height old new (Some m) n
    by_window (inl e) = subst (λ k. is_moved n (if whole then Some named else None) ≡ is_moved_whole width height old new (Some m) k) e (by_all (both m) refl (is ∙ ap (λ b. b && both m) self) (grind (arith, nat_tests)))
    by_window (inr ne) = rw other (not_there whole)
      where
        other : (m == n) ≡ false
        other = grind (arith, nat_tests)

        not_there : (b : Bool) → is_moved n (if b then Some named else None) ≡ false
        not_there true = rw (← same m refl) other
        not_there false = refl

-- no window is moved by a change that is refused
none_moved : (r : Option Refusal) (moved : Option ℕ) → is_some r ≡ true → moves_unless r moved ≡ None
none_moved None moved is = absurd (true≢false (sym is))
none_moved (Some why) moved is = refl

is_to_move : (r : Option Refusal) (moved : Option ℕ) (m : ℕ) → moves_unless r moved ≡ Some m → moved ≡ Some m
is_to_move None moved m is = is
is_to_move (Some why) moved m is = absurd (cc)

pub whole_told : (s : Scene) (w : World) (change : Change) (new : List Window) (told : Option Touched) (n : ℕ) → IfSome told (IsTouchedBy s w (moved_by change w.stack) new) → is_none told ≡ is_some (refusal change w.stack) →
    is_moved n (whole_window change told) ≡ is_moved_whole s.width s.height w.stack new (moved_by change w.stack) n
whole_told s w change new None n some refused = rw (none_moved (refusal change w.stack) (moves change) (sym refused)) refl
whole_told s w change new (Some touched) n some refused =
    named_whole s.width s.height w.stack new (named_by change) n (moved_by change w.stack) (is_whole touched) (λ m is. moves_named change m (is_to_move (refusal change w.stack) (moves change) m is)) some.whole

-- the script at a place is that of its number
pub script_at : (ps : List ClientScript) (i : ℕ) (p : ClientScript) → AllPairs ◌<◌ (client_numbers ps) → slice_get ps i ≡ Some p → script_in ps p.number ≡ p
script_at [] i p rising e = absurd (cc)
script_at (q ∷ qs) zero p rising e = let same : q ≡ p = some_one e in let here : (q.number == p.number) ≡ true = grind (arith, nat_tests) in rw here same
script_at (q ∷ qs) (suc i) p rising e =
    let at = number_at (q ∷ qs) (suc i) p e in
    let lt = rising 0 (suc i) 0 (omega arith) (slice_get_within (client_numbers (q ∷ qs)) (suc i) p.number at) in
    let last : get_or (client_numbers (q ∷ qs)) (suc i) 0 ≡ p.number = get_or_from_slice_get (client_numbers (q ∷ qs)) (suc i) p.number 0 at in
    let below : q.number < p.number = omega (arith, lt, last) in
    let other : (q.number == p.number) ≡ false = grind (arith, nat_tests) in
    rw other (script_at qs i p (λ a b d l m. rising (suc a) (suc b) d (omega (arith, l)) (omega (arith, m))) e)

-- the counts after an entry that gives new stamps to these windows
pub cut_counts : (s : Scene) (w : World) (e : Entry) (t : Reports.Tally) (clients : List ClientScript) (windows : List ℕ) (whole : Option ℕ) (old new : Tally) → InRange s → clients ≡ s.clients → IsTallyOf s t old → AreCut clients windows whole old.standings.items new.standings.items →
    new.frames ≡ old.frames → new.stood ≡ old.stood → ((n : ℕ) → n ≤ 64 → is_cut windows whole n ≡ not (keeps s w e n)) → IsTallyOf s (tally_cut s w e t) new
cut_counts s w e t clients windows whole old new good same is cut frames stood told = record {
  frames = frames ∙ is.frames;
  stood = stood ∙ is.stood;
  room = cut.room ∙ is.room;
  each = each;
}
  where
    each : (i : ℕ) (p : ClientScript) (x : Standing) → slice_get s.clients i ≡ Some p → slice_get new.standings.items i ≡ Some x → standing_in x ≡ cut_by (not (keeps s w e (window_of s p.number))) (t.standing p.number)
    each i p x at_p at_x =
        let below : i < length old.standings.items = rw is.room (slice_get_within s.clients i p at_p) in
        let at_old = slice_get-get_or old.standings.items i Standing_is.NoClear below in
        let there : slice_get clients i ≡ Some p = rw same at_p in
        let number : window_of s p.number ≡ p.window = ap (λ (q : ClientScript). q.window) (script_at s.clients i p good.scripted.rising at_p) in
        let within = owned_window s.windows p.window p.number good.windowed.each (client_in_range s i p good at_p).owns in
        cut.each i p (get_or old.standings.items i Standing_is.NoClear) x there at_old at_x ∙
        (λ k. cut_by (told p.window within.1 k) (is.each i p (get_or old.standings.items i Standing_is.NoClear) at_p at_old k)) ∙
        (λ k. cut_by (not (keeps s w e (sym number k))) (t.standing p.number))
