-- The windows stay where a window may stand, and a number that no window has, none gets.
use Rattle.std.proofs.Common.{◌≡◌, ◌≢◌, ℕ, ℤ, List, [], ◌∷◌, ◌++◌, map, filter, Bool, true, false, not, ◌&&◌, ◌==◌, if◌then◌else◌, Option, Some, None, refl, ◌∙◌, sym, arith, All}
use Rattle.std.specs.List.{AllByRecursion}
use Rattle.std.proofs.lemmas.Bool.{and_parts}
use Rattle.std.proofs.lemmas.Bool.Decides.{eqb_tells}
use Rattle.std.proofs.lemmas.Int.{ints}
use Rattle.std.proofs.lemmas.List.Elements.{All-head, All-tail}
use Rattle.dri_base.proofs.RegionSizes.{corner_is}
use Rattle.dri_base.specs.Ranges.{InRange, IsPlace, WindowInRange, is_corner}
use Rattle.dri_base.specs.declared.command.Change.{Change}
use Rattle.dri_base.specs.declared.command.Change.TheVariants.{Map, Unmap, Move, Resize, Raise, Lower}
use Rattle.dri_base.specs.declared.journal.Entry.{Entry}
use Rattle.dri_base.specs.declared.scene.Scene.{Scene}
use Rattle.dri_base.specs.declared.scene.Window.{Window}
use Rattle.dri_core.specs.Runs.{after}
use Rattle.dri_core.proofs.Windows.{Stays, stays_after}
use Rattle.dri_model.specs.Stacks.{Refusal, changed, origin, refusal, refused_for, unmapped, window_in}

-- each window stands where one may
abbrev pub IsPlaced : Window → Type 0
IsPlaced w = IsPlace w.x × IsPlace w.y

-- in lists
all_map : (P : Window → Type 0) (f : Window → Window) (ws : List Window) → ((w : Window) → P w → P (f w)) → AllByRecursion P ws → AllByRecursion P (map f ws)
all_map P f [] keeps all = tt
all_map P f (w ∷ ws) keeps all = (keeps w all.0, all_map P f ws keeps all.1)

all_append : (P : Window → Type 0) (xs ys : List Window) → AllByRecursion P xs → AllByRecursion P ys → AllByRecursion P (xs ++ ys)
all_append P [] ys xall yall = yall
all_append P (x ∷ xs) ys xall yall = (xall.0, all_append P xs ys xall.1 yall)

all_filter : (P : Window → Type 0) (p : Window → Bool) (ws : List Window) → AllByRecursion P ws → AllByRecursion P (filter p ws)
all_filter P p [] all = tt
all_filter P p (w ∷ ws) all = by_case (p w) refl (all_filter P p ws all.1)
  where
    by_case : (b : Bool) → p w ≡ b → AllByRecursion P (filter p ws) → AllByRecursion P (filter p (w ∷ ws))
    by_case true e rest = rw e (all.0, rest)
    by_case false e rest = rw e rest

-- over a change
placed_kept : (b : Bool) (v w : Window) → (IsPlaced w → IsPlaced v) → IsPlaced w → IsPlaced (if b then v else w)
placed_kept true v w f p = f p
placed_kept false v w f p = p

-- a corner that isn't refused
moved_is : (m : ℕ) (x y : ℤ) (o : Option Window) → refused_for (Move m x y) o ≡ None → IsPlace x × IsPlace y
moved_is m x y None e = absurd (cc)
moved_is m x y (Some w) e = by_case (is_corner x && is_corner y) refl
  where
    by_case : (b : Bool) → (is_corner x && is_corner y) ≡ b → IsPlace x × IsPlace y
    by_case true h = let both = and_parts (is_corner x) (is_corner y) h in (corner_is x both.0, corner_is y both.1)
    by_case false h = absurd (let no : Some Refusal.OutOfRange ≡ None = rw h at e in cc)

placed_changed : (change : Change) (ws : List Window) → refusal change ws ≡ None → AllByRecursion IsPlaced ws → AllByRecursion IsPlaced (changed change ws)
placed_changed (Map m) ws ok all = all_map IsPlaced (λ w. if w.number == m then record w { mapped = true } else w) ws (λ w. placed_kept (w.number == m) (record w { mapped = true }) w (λ p. p)) all
placed_changed (Unmap m) ws ok all = all_map IsPlaced (λ w. if w.number == m then record w { mapped = false } else w) ws (λ w. placed_kept (w.number == m) (record w { mapped = false }) w (λ p. p)) all
placed_changed (Move m x y) ws ok all = all_map IsPlaced (λ w. if w.number == m then record w { x = x; y = y } else w) ws (λ w. placed_kept (w.number == m) (record w { x = x; y = y }) w (λ p. moved_is m x y (window_in ws m) ok)) all
placed_changed (Resize m width height) ws ok all = all_map IsPlaced (λ w. if w.number == m then record w { width = width; height = height } else w) ws (λ w. placed_kept (w.number == m) (record w { width = width; height = height }) w (λ p. p)) all
placed_changed (Raise m) ws ok all = all_append IsPlaced (filter (λ w. w.number == m) ws) (filter (λ w. not (w.number == m)) ws) (all_filter IsPlaced (λ w. w.number == m) ws all) (all_filter IsPlaced (λ w. not (w.number == m)) ws all)
placed_changed (Lower m) ws ok all = all_append IsPlaced (filter (λ w. not (w.number == m)) ws) (filter (λ w. w.number == m) ws) (all_filter IsPlaced (λ w. not (w.number == m)) ws all) (all_filter IsPlaced (λ w. w.number == m) ws all)

placed_stays : Stays (AllByRecursion IsPlaced)
placed_stays = record {
  change = placed_changed;
  death = λ c ws. all_map IsPlaced (unmapped c) ws (λ w. placed_kept (w.owner == c) (record w { mapped = false }) w (λ p. p));
}

-- each window's origin is one that a window may have
all_recursive : (ws : List Window) → All WindowInRange ws → AllByRecursion IsPlaced ws
all_recursive [] all = tt
all_recursive (w ∷ ws) all = let first = All-head WindowInRange w ws all in ((first.left, first.top), all_recursive ws (All-tail WindowInRange w ws all))

origin_in : (ws : List Window) (n : ℕ) → AllByRecursion IsPlaced ws → IsPlace (origin ws n).0 × IsPlace (origin ws n).1
origin_in [] n all = ((omega (arith, ints), omega (arith, ints)), (omega (arith, ints), omega (arith, ints)))
origin_in (w ∷ ws) n all = by_case (w.number == n) refl (origin_in ws n all.1)
  where
    by_case : (b : Bool) → (w.number == n) ≡ b → IsPlace (origin ws n).0 × IsPlace (origin ws n).1 → IsPlace (origin (w ∷ ws) n).0 × IsPlace (origin (w ∷ ws) n).1
    by_case true e rest = rw e all.0
    by_case false e rest = rw e rest

pub origin_after : (s : Scene) (journal : List Entry) (n : ℕ) → InRange s → IsPlace (origin (after s journal).stack n).0 × IsPlace (origin (after s journal).stack n).1
origin_after s journal n good = origin_in (after s journal).stack n (stays_after (AllByRecursion IsPlaced) placed_stays s journal (all_recursive s.windows good.windowed.each))

-- a number that no window has, no window gets
abbrev pub IsOther : ℕ → Window → Type 0
IsOther n w = w.number ≢ n

other_kept : (n : ℕ) (b : Bool) (v w : Window) → v.number ≡ w.number → IsOther n w → IsOther n (if b then v else w)
other_kept n true v w e other = λ h. other (sym e ∙ h)
other_kept n false v w e other = other

others_changed : (n : ℕ) (change : Change) (ws : List Window) → AllByRecursion (IsOther n) ws → AllByRecursion (IsOther n) (changed change ws)
others_changed n (Map m) ws all = all_map (IsOther n) (λ w. if w.number == m then record w { mapped = true } else w) ws (λ w. other_kept n (w.number == m) (record w { mapped = true }) w refl) all
others_changed n (Unmap m) ws all = all_map (IsOther n) (λ w. if w.number == m then record w { mapped = false } else w) ws (λ w. other_kept n (w.number == m) (record w { mapped = false }) w refl) all
others_changed n (Move m x y) ws all = all_map (IsOther n) (λ w. if w.number == m then record w { x = x; y = y } else w) ws (λ w. other_kept n (w.number == m) (record w { x = x; y = y }) w refl) all
others_changed n (Resize m width height) ws all = all_map (IsOther n) (λ w. if w.number == m then record w { width = width; height = height } else w) ws (λ w. other_kept n (w.number == m) (record w { width = width; height = height }) w refl) all
others_changed n (Raise m) ws all = all_append (IsOther n) (filter (λ w. w.number == m) ws) (filter (λ w. not (w.number == m)) ws) (all_filter (IsOther n) (λ w. w.number == m) ws all) (all_filter (IsOther n) (λ w. not (w.number == m)) ws all)
others_changed n (Lower m) ws all = all_append (IsOther n) (filter (λ w. not (w.number == m)) ws) (filter (λ w. w.number == m) ws) (all_filter (IsOther n) (λ w. not (w.number == m)) ws all) (all_filter (IsOther n) (λ w. w.number == m) ws all)

others_stay : (n : ℕ) → Stays (AllByRecursion (IsOther n))
others_stay n = record {
  change = λ change ws ok. others_changed n change ws;
  death = λ c ws. all_map (IsOther n) (unmapped c) ws (λ w. other_kept n (w.owner == c) (record w { mapped = false }) w refl);
}

pub others_after : (s : Scene) (journal : List Entry) (n : ℕ) → AllByRecursion (IsOther n) s.windows → AllByRecursion (IsOther n) (after s journal).stack
others_after s journal n all = stays_after (AllByRecursion (IsOther n)) (others_stay n) s journal all
