-- What stays of the stack over changes and deaths: each window of the scene stays on it.
use Rattle.std.proofs.Common.{◌≡◌, ◌⊎◌, ℕ, suc, List, [], ◌∷◌, ◌++◌, map, filter, Bool, true, false, not, ◌==◌, if◌then◌else◌, Option, Some, None, slice_get, refl, ◌∙◌, arith, inl, inr, Contains}
use Rattle.std.proofs.lemmas.Bool.Decides.{eqb_tells}
use Rattle.dri_base.specs.Ranges.{owner_of, window_numbers}
use Rattle.dri_base.specs.declared.command.Change.{Change}
use Rattle.dri_base.specs.declared.command.Change.TheVariants.{Map, Unmap, Move, Resize, Raise, Lower}
use Rattle.dri_base.specs.declared.journal.Entry.{Entry}
use Rattle.dri_base.specs.declared.journal.Entry.TheVariants as Entry_is
use Rattle.dri_base.specs.declared.scene.Scene.{Scene}
use Rattle.dri_base.specs.declared.scene.Window.{Window}
use Rattle.dri_core.specs.EntryTable.{after_entry}
use Rattle.dri_core.specs.Restacks.{change_stack}
use Rattle.dri_core.specs.Runs.{after, after_entries}
use Rattle.dri_core.specs.Worlds.{World, opening}
use Rattle.dri_model.specs.Stacks.{Refusal, changed, refusal, unless_refused, unmapped, without_owner}

-- the stack has window n
abbrev pub Has : ℕ → List Window → Type 0
Has n [] = ⊥
Has n (w ∷ ws) = (w.number ≡ n) ⊎ Has n ws

-- in lists
has_map : (f : Window → Window) (n : ℕ) (ws : List Window) → ((w : Window) → (f w).number ≡ w.number) → Has n ws → Has n (map f ws)
has_map f n [] keeps h = elim h [ ]
has_map f n (w ∷ ws) keeps (inl e) = inl (keeps w ∙ e)
has_map f n (w ∷ ws) keeps (inr h) = inr (has_map f n ws keeps h)

has_first : (n : ℕ) (xs ys : List Window) → Has n xs → Has n (xs ++ ys)
has_first n [] ys h = elim h [ ]
has_first n (x ∷ xs) ys (inl e) = inl e
has_first n (x ∷ xs) ys (inr h) = inr (has_first n xs ys h)

has_second : (n : ℕ) (xs ys : List Window) → Has n ys → Has n (xs ++ ys)
has_second n [] ys h = h
has_second n (x ∷ xs) ys h = inr (has_second n xs ys h)

has_filter : (p : Window → Bool) (n : ℕ) (ws : List Window) → ((w : Window) → w.number ≡ n → p w ≡ true) → Has n ws → Has n (filter p ws)
has_filter p n [] all h = elim h [ ]
has_filter p n (w ∷ ws) all (inl e) = rw (all w e) (inl e)
has_filter p n (w ∷ ws) all (inr h) = by_case (p w) refl (has_filter p n ws all h)
  where
    by_case : (b : Bool) → p w ≡ b → Has n (filter p ws) → Has n (filter p (w ∷ ws))
    by_case true e rest = rw e (inr rest)
    by_case false e rest = rw e rest

-- over a change
number_kept : (b : Bool) (v w : Window) → v.number ≡ w.number → (if b then v else w).number ≡ w.number
number_kept true v w e = e
number_kept false v w e = refl

has_sorted : (p : Window → Bool) (n : ℕ) (ws : List Window) (b : Bool) → ((w : Window) → w.number ≡ n → p w ≡ b) → Has n ws → Has n (filter p ws ++ filter (λ w. not (p w)) ws)
has_sorted p n ws true all h = has_first n (filter p ws) (filter (λ w. not (p w)) ws) (has_filter p n ws all h)
has_sorted p n ws false all h = has_second n (filter p ws) (filter (λ w. not (p w)) ws) (has_filter (λ w. not (p w)) n ws (λ w e. rw (all w e) refl) h)

has_sorted_back : (p : Window → Bool) (n : ℕ) (ws : List Window) (b : Bool) → ((w : Window) → w.number ≡ n → p w ≡ b) → Has n ws → Has n (filter (λ w. not (p w)) ws ++ filter p ws)
has_sorted_back p n ws true all h = has_second n (filter (λ w. not (p w)) ws) (filter p ws) (has_filter p n ws all h)
has_sorted_back p n ws false all h = has_first n (filter (λ w. not (p w)) ws) (filter p ws) (has_filter (λ w. not (p w)) n ws (λ w e. rw (all w e) refl) h)

has_changed : (change : Change) (n : ℕ) (ws : List Window) → Has n ws → Has n (changed change ws)
has_changed (Map m) n ws h = has_map (λ w. if w.number == m then record w { mapped = true } else w) n ws (λ w. number_kept (w.number == m) (record w { mapped = true }) w refl) h
has_changed (Unmap m) n ws h = has_map (λ w. if w.number == m then record w { mapped = false } else w) n ws (λ w. number_kept (w.number == m) (record w { mapped = false }) w refl) h
has_changed (Move m x y) n ws h = has_map (λ w. if w.number == m then record w { x = x; y = y } else w) n ws (λ w. number_kept (w.number == m) (record w { x = x; y = y }) w refl) h
has_changed (Resize m width height) n ws h = has_map (λ w. if w.number == m then record w { width = width; height = height } else w) n ws (λ w. number_kept (w.number == m) (record w { width = width; height = height }) w refl) h
has_changed (Raise m) n ws h = has_sorted (λ w. w.number == m) n ws (n == m) (λ w e. rw e refl) h
has_changed (Lower m) n ws h = has_sorted_back (λ w. w.number == m) n ws (n == m) (λ w e. rw e refl) h

-- what stays over all changes and all deaths
pub record Stays (P : List Window → Type 0) : Type 0 where
  pub change : (change : Change) (ws : List Window) → refusal change ws ≡ None → P ws → P (changed change ws)
  pub death : (c : ℕ) (ws : List Window) → P ws → P (without_owner c ws)

unless : (P : List Window → Type 0) (r : Option Refusal) (old new : List Window) → (r ≡ None → P new) → P old → P (unless_refused r old new)
unless P None old new f p = f refl
unless P (Some why) old new f p = p

after_change : (P : List Window → Type 0) → Stays P → (ws : List Window) (o : Option Change) → P ws → P (change_stack ws o)
after_change P stays ws None p = p
after_change P stays ws (Some change) p = unless P (refusal change ws) ws (changed change ws) (λ ok. stays.change change ws ok p) p

stays_entry : (P : List Window → Type 0) → Stays P → (s : Scene) (w : World) (e : Entry) → P w.stack → P (after_entry s w e).stack
stays_entry P stays s w (Entry_is.Change i) p = after_change P stays w.stack (slice_get s.changes w.made) p
stays_entry P stays s w (Entry_is.Gone c) p = stays.death c w.stack p
stays_entry P stays s w _ p = p

stays_along : (P : List Window → Type 0) → Stays P → (s : Scene) (w : World) (es : List Entry) → P w.stack → P (after_entries s w es).stack
stays_along P stays s w [] p = p
stays_along P stays s w (e ∷ es) p = stays_along P stays s (after_entry s w e) es (stays_entry P stays s w e p)

-- what holds of a scene's windows, and stays, holds of the stack after any journal
pub stays_after : (P : List Window → Type 0) → Stays P → (s : Scene) (journal : List Entry) → P s.windows → P (after s journal).stack
stays_after P stays s journal p = stays_along P stays s (opening s) journal p

has_stays : (n : ℕ) → Stays (Has n)
has_stays n = record {
  change = λ change ws ok. has_changed change n ws;
  death = λ c ws. has_map (unmapped c) n ws (λ w. number_kept (w.owner == c) (record w { mapped = false }) w refl);
}

-- a window of the scene is on the stack
pub has_after : (s : Scene) (journal : List Entry) (n : ℕ) → Has n s.windows → Has n (after s journal).stack
has_after s journal n h = stays_after (Has n) (has_stays n) s journal h

pub has_owned : (ws : List Window) (n c : ℕ) → owner_of ws n ≡ Some c → Has n ws
has_owned [] n c e = absurd (cc)
has_owned (w ∷ ws) n c e =
    elim (eqb_tells w.number n) as (λ _. Has n (w ∷ ws)) [
      | inl same ↦ inl same.1
      | inr other ↦ inr (has_owned ws n c (rw other.0 at e))
    ]

pub has_contains : (ws : List Window) (n : ℕ) → Has n ws → Contains (window_numbers ws) n
has_contains [] n h = elim h [ ]
has_contains (w ∷ ws) n (inl e) = (0, omega arith, e)
has_contains (w ∷ ws) n (inr h) = let there = has_contains ws n h in (suc there.0, omega (arith, there.1), there.2)
