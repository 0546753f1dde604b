-- Frame k stands at its last clear and its swap.
use Rattle.std.proofs.Common.{◌≡◌, ◌<◌, ◌≤◌, ◌+◌, ◌-◌, ℕ, zero, suc, List, [], ◌∷◌, Bool, true, false, Option, Some, None, arith, refl, sym, ap, ◌∙◌, subst, inl, inr}
use Rattle.std.specs.Prelude.{slice_get, pred, ◌==◌, ◌⊎◌}
use Rattle.std.proofs.lemmas.Bool.{cases_eq, true≢false}
use Rattle.std.proofs.lemmas.Bool.Decides.{nat_tests}
use Rattle.dri_base.specs.declared.command.Command.{Command}
use Rattle.dri_base.specs.declared.command.Command.TheVariants.{Set, Clear, Triangle, Swap, Yield, Die}
use Rattle.dri_model.proofs.Touches.{how_many_below}
use Rattle.dri_core.specs.Solo.{frame, frame_from, with_swap, is_clear, is_swap, swaps_before, IsFrame}

-- the commands from a place on are the rest of all
abbrev IsRest : List Command → ℕ → List Command → Type 0
IsRest all place cs = (n : ℕ) → slice_get all (pred place + n) ≡ slice_get cs n

rest_on : (all : List Command) (place : ℕ) (c : Command) (cs : List Command) → 0 < place → IsRest all place (c ∷ cs) → IsRest all (place + 1) cs
rest_on all place c cs l rest n = let e : pred (place + 1) + n ≡ pred place + suc n = omega arith in rw e (rest (suc n))

head_at : (all : List Command) (place : ℕ) (c : Command) (cs : List Command) → IsRest all place (c ∷ cs) → slice_get all (pred place) ≡ Some c
head_at all place c cs rest = let e : pred place ≡ pred place + 0 = omega arith in subst (λ k. slice_get all k ≡ Some c) (sym e) (rest 0)

-- what stands at a place, where it begins the rest
swap_at : (all : List Command) (place : ℕ) (c : Command) (cs : List Command) → IsRest all place (c ∷ cs) → is_swap (slice_get all (pred place)) ≡ is_swap (Some c)
swap_at all place c cs rest = ap is_swap (head_at all place c cs rest)

clear_at : (all : List Command) (place : ℕ) (c : Command) (cs : List Command) → IsRest all place (c ∷ cs) → is_clear (slice_get all (pred place)) ≡ is_clear (Some c)
clear_at all place c cs rest = ap is_clear (head_at all place c cs rest)

-- one more swap, or none
pub one_more : (all : List Command) (place : ℕ) → 0 < place → is_swap (slice_get all (pred place)) ≡ true → swaps_before all (place + 1) ≡ swaps_before all place + 1
one_more all zero l e = absurd (omega arith)
one_more all (suc i) l e = let h : pred (suc i + 1) ≡ suc i = omega arith in rw h (rw e (omega arith))

pub no_more : (all : List Command) (place : ℕ) → 0 < place → is_swap (slice_get all (pred place)) ≡ false → swaps_before all (place + 1) ≡ swaps_before all place
no_more all zero l e = absurd (omega arith)
no_more all (suc i) l e = let h : pred (suc i + 1) ≡ suc i = omega arith in rw h (rw e refl)

-- the clear that was seen, with neither clear nor swap since
abbrev Seen : List Command → ℕ → Option ℕ → Type 0
Seen all place None = Unit {0}
Seen all place (Some f) =
    (0 < f) × (f < place) × (is_clear (slice_get all (pred f)) ≡ true) ×
    ((j : ℕ) → f < j → j < place → (is_clear (slice_get all (pred j)) ≡ false) × (is_swap (slice_get all (pred j)) ≡ false))

seen_on : (all : List Command) (place : ℕ) (clear : Option ℕ) → (is_clear (slice_get all (pred place)) ≡ false) × (is_swap (slice_get all (pred place)) ≡ false) → Seen all place clear → Seen all (place + 1) clear
seen_on all place None here seen = tt
seen_on all place (Some f) here seen = (seen.0, omega (arith, seen.1), seen.2, λ j l m. by_place j l (cases_eq j place) m)
  where
    by_place : (j : ℕ) → f < j → (j ≡ place) ⊎ (j ≡ place → ⊥) → j < place + 1 → (is_clear (slice_get all (pred j)) ≡ false) × (is_swap (slice_get all (pred j)) ≡ false)
    by_place j l (inl same) m = rw same here
    by_place j l (inr ne) m = seen.3 j l (omega arith)

some_pair : (a b : ℕ × ℕ) → Some a ≡ Some b → a ≡ b
some_pair a b e = cc

no_pair : {a : ℕ × ℕ} → None ≡ Some a → ⊥
no_pair e = grind arith

-- frames count from 1
none_at_zero : (cs : List Command) (place : ℕ) (clear : Option ℕ) → frame_from cs place clear 0 ≡ None
none_at_zero [] place clear = refl
none_at_zero (Swap ∷ cs) place clear = none_at_zero cs (place + 1) None
none_at_zero (Clear colour depth ∷ cs) place clear = none_at_zero cs (place + 1) (Some place)
none_at_zero (Triangle t ∷ cs) place clear = none_at_zero cs (place + 1) clear
none_at_zero (Set setting ∷ cs) place clear = none_at_zero cs (place + 1) clear
none_at_zero (Yield ∷ cs) place clear = none_at_zero cs (place + 1) clear
none_at_zero (Die ∷ cs) place clear = none_at_zero cs (place + 1) clear

at_swap : (all : List Command) (place first last k : ℕ) (clear : Option ℕ) → is_swap (slice_get all (pred place)) ≡ true → k ≡ swaps_before all place + 1 → Seen all place clear → with_swap clear place ≡ Some (first, last) → IsFrame all k first last
at_swap all place first last k None is number seen e = absurd (no_pair e)
at_swap all place first last k (Some f) is number seen e =
    let p = some_pair (f, place) (first, last) e in
    subst (λ q. IsFrame all k q.0 q.1) p (record { counted = seen.0; order = seen.1; clear = seen.2; swap = is; number = number; inner = seen.3 })

-- what is found is the frame, where k swaps are ahead
found : (all cs : List Command) (place : ℕ) (clear : Option ℕ) (k number first last : ℕ) → 0 < place → IsRest all place cs → Seen all place clear → number ≡ swaps_before all place + k → frame_from cs place clear k ≡ Some (first, last) → IsFrame all number first last
found all [] place clear k number first last l rest seen ahead e = absurd (no_pair e)
found all (Swap ∷ cs) place clear zero number first last l rest seen ahead e = absurd (no_pair (sym (none_at_zero (Swap ∷ cs) place clear) ∙ e))
found all (Swap ∷ cs) place clear (suc k) number first last l rest seen ahead e =
    by_number (suc k == 1) refl (found all cs (place + 1) None k number first last (omega arith) (rest_on all place Swap cs l rest) tt (rw (one_more all place l (swap_at all place Swap cs rest)) (omega (arith, ahead))))
  where
    by_number : (b : Bool) → (suc k == 1) ≡ b → (frame_from cs (place + 1) None k ≡ Some (first, last) → IsFrame all number first last) → IsFrame all number first last
    by_number true n on = at_swap all place first last number clear (swap_at all place Swap cs rest) (grind (arith, nat_tests, ahead, n)) seen (rw n at e)
    by_number false n on = on (rw n at e)
found all (Clear colour depth ∷ cs) place clear k number first last l rest seen ahead e =
    found all cs (place + 1) (Some place) k number first last (omega arith) (rest_on all place (Clear colour depth) cs l rest)
    (l, omega arith, clear_at all place (Clear colour depth) cs rest, λ j a b. absurd (omega arith))
    (rw (no_more all place l (swap_at all place (Clear colour depth) cs rest)) ahead) e
found all (Triangle t ∷ cs) place clear k number first last l rest seen ahead e =
    found all cs (place + 1) clear k number first last (omega arith) (rest_on all place (Triangle t) cs l rest) (seen_on all place clear (clear_at all place (Triangle t) cs rest, swap_at all place (Triangle t) cs rest) seen)
    (rw (no_more all place l (swap_at all place (Triangle t) cs rest)) ahead) e
found all (Set setting ∷ cs) place clear k number first last l rest seen ahead e =
    found all cs (place + 1) clear k number first last (omega arith) (rest_on all place (Set setting) cs l rest) (seen_on all place clear (clear_at all place (Set setting) cs rest, swap_at all place (Set setting) cs rest) seen)
    (rw (no_more all place l (swap_at all place (Set setting) cs rest)) ahead) e
found all (Yield ∷ cs) place clear k number first last l rest seen ahead e =
    found all cs (place + 1) clear k number first last (omega arith) (rest_on all place Yield cs l rest) (seen_on all place clear (clear_at all place Yield cs rest, swap_at all place Yield cs rest) seen)
    (rw (no_more all place l (swap_at all place Yield cs rest)) ahead) e
found all (Die ∷ cs) place clear k number first last l rest seen ahead e =
    found all cs (place + 1) clear k number first last (omega arith) (rest_on all place Die cs l rest) (seen_on all place clear (clear_at all place Die cs rest, swap_at all place Die cs rest) seen)
    (rw (no_more all place l (swap_at all place Die cs rest)) ahead) e

all_rest : (cs : List Command) → IsRest cs 1 cs
all_rest cs n = let z : pred 1 + n ≡ n = omega arith in rw z refl

pub is_frame : (cs : List Command) (k first last : ℕ) → frame cs k ≡ Some (first, last) → IsFrame cs k first last
is_frame cs k first last e = found cs cs 1 None k k first last (omega arith) (all_rest cs) tt (omega arith) e

-- the frame's swap stands at this place, or behind it
abbrev IsAhead : List Command → ℕ → Option ℕ → ℕ → ℕ → ℕ → Type 0
IsAhead all place clear k first last = (place ≤ last) × (swaps_before all last + 1 ≡ swaps_before all place + k) × (first < place → clear ≡ Some first)

module _ (all : List Command) (number first last : ℕ) (f : IsFrame all number first last) where
  -- the swaps before the frame's swap
  before_last : (place : ℕ) → place ≤ last → 0 < place → swaps_before all place ≤ swaps_before all last
  before_last place l o = let e : pred last ≡ (last - place) + pred place = omega arith in rw e (how_many_below (λ j. is_swap (slice_get all j)) (pred place) (last - place))

  not_last : (place : ℕ) → is_swap (slice_get all (pred place)) ≡ false → last ≡ place → ⊥
  not_last place e same = true≢false (sym f.swap ∙ ap (λ p. is_swap (slice_get all (pred p))) same ∙ e)

  not_first : (place : ℕ) → is_clear (slice_get all (pred place)) ≡ false → first ≡ place → ⊥
  not_first place e same = true≢false (sym f.clear ∙ ap (λ p. is_clear (slice_get all (pred p))) same ∙ e)

  no_inner_clear : (place : ℕ) → is_clear (slice_get all (pred place)) ≡ true → first < place → place < last → ⊥
  no_inner_clear place e l m = true≢false (sym e ∙ (f.inner place l m).0)

  no_inner_swap : (place : ℕ) → is_swap (slice_get all (pred place)) ≡ true → first < place → place < last → ⊥
  no_inner_swap place e l m = true≢false (sym e ∙ (f.inner place l m).1)

  -- behind a command that is neither clear nor swap
  pass : (place : ℕ) (clear : Option ℕ) (k : ℕ) → 0 < place → is_clear (slice_get all (pred place)) ≡ false → is_swap (slice_get all (pred place)) ≡ false → IsAhead all place clear k first last → IsAhead all (place + 1) clear k first last
  pass place clear k o no_clear no_swap a =
      (omega (arith, a.0, not_last place no_swap), rw (no_more all place o no_swap) a.1, λ l. a.2 (omega (arith, l, not_first place no_clear)))

  -- behind a clear
  pass_clear : (place : ℕ) (clear : Option ℕ) (k : ℕ) → 0 < place → is_clear (slice_get all (pred place)) ≡ true → is_swap (slice_get all (pred place)) ≡ false → IsAhead all place clear k first last → IsAhead all (place + 1) (Some place) k first last
  pass_clear place clear k o is_clear no_swap a =
      let m : place < last = omega (arith, a.0, not_last place no_swap) in
      (omega (arith, m), rw (no_more all place o no_swap) a.1, λ l. by_place (cases_eq first place) l m)
    where
      by_place : (first ≡ place) ⊎ (first ≡ place → ⊥) → first < place + 1 → place < last → Some place ≡ Some first
      by_place (inl same) l m = ap Some (sym same)
      by_place (inr ne) l m = absurd (no_inner_clear place is_clear (omega (arith, l, ne)) m)

  there : (cs : List Command) (place : ℕ) (clear : Option ℕ) (k : ℕ) → 0 < place → IsRest all place cs → IsAhead all place clear k first last → frame_from cs place clear k ≡ Some (first, last)
  there [] place clear k o rest a =
      let e : pred last ≡ pred place + (last - place) = omega (arith, a.0) in
      absurd (true≢false (sym f.swap ∙ ap is_swap (ap (slice_get all) e ∙ rest (last - place))))
  there (Swap ∷ cs) place clear k o rest a = by_place (cases_eq last place) (there cs (place + 1) None (pred k))
    where
      is : is_swap (slice_get all (pred place)) ≡ true
      is = swap_at all place Swap cs rest

      at_place : k ≡ 1 → clear ≡ Some first → last ≡ place → frame_from (Swap ∷ cs) place clear k ≡ Some (first, last)
      at_place one seen same = rw (one, seen, same) refl

      no_clear : first < place + 1 → place < last → None ≡ Some first
      no_clear l m = absurd (no_inner_swap place is (omega (arith, l, not_first place (clear_at all place Swap cs rest))) m)

      later : (k == 1) ≡ false → frame_from cs (place + 1) None (pred k) ≡ Some (first, last) → frame_from (Swap ∷ cs) place clear k ≡ Some (first, last)
      later more on = rw more on

      by_place : (last ≡ place) ⊎ (last ≡ place → ⊥) → (0 < place + 1 → IsRest all (place + 1) cs → IsAhead all (place + 1) None (pred k) first last → frame_from cs (place + 1) None (pred k) ≡ Some (first, last)) → frame_from (Swap ∷ cs) place clear k ≡ Some (first, last)
      by_place (inl same) on = at_place (omega (arith, a.1, ap (swaps_before all) same)) (a.2 (omega (arith, f.order, same))) same
      by_place (inr ne) on =
          let m : place < last = omega (arith, a.0, ne) in
          let more = one_more all place o is in
          let below = before_last (place + 1) (omega (arith, m)) (omega arith) in
          let big : 1 < k = omega (arith, a.1, more, below) in
          later (grind (arith, nat_tests, big)) (on (omega arith) (rest_on all place Swap cs o rest) (omega (arith, m), omega (arith, a.1, more, big), λ l. no_clear l m))
  there (Clear colour depth ∷ cs) place clear k o rest a =
      there cs (place + 1) (Some place) k (omega arith) (rest_on all place (Clear colour depth) cs o rest)
      (pass_clear place clear k o (clear_at all place (Clear colour depth) cs rest) (swap_at all place (Clear colour depth) cs rest) a)
  there (Triangle t ∷ cs) place clear k o rest a =
      there cs (place + 1) clear k (omega arith) (rest_on all place (Triangle t) cs o rest) (pass place clear k o (clear_at all place (Triangle t) cs rest) (swap_at all place (Triangle t) cs rest) a)
  there (Set setting ∷ cs) place clear k o rest a =
      there cs (place + 1) clear k (omega arith) (rest_on all place (Set setting) cs o rest) (pass place clear k o (clear_at all place (Set setting) cs rest) (swap_at all place (Set setting) cs rest) a)
  there (Yield ∷ cs) place clear k o rest a =
      there cs (place + 1) clear k (omega arith) (rest_on all place Yield cs o rest) (pass place clear k o (clear_at all place Yield cs rest) (swap_at all place Yield cs rest) a)
  there (Die ∷ cs) place clear k o rest a =
      there cs (place + 1) clear k (omega arith) (rest_on all place Die cs o rest) (pass place clear k o (clear_at all place Die cs rest) (swap_at all place Die cs rest) a)

pub frame_is : (cs : List Command) (k first last : ℕ) → IsFrame cs k first last → frame cs k ≡ Some (first, last)
frame_is cs k first last f =
    there cs k first last f cs 1 None k (omega arith) (all_rest cs) (omega (arith, f.order), omega (arith, f.number), λ l. absurd (omega (arith, l, f.counted)))
