-- Room in a shared region is found exactly where it is.
use Rattle.std.proofs.Common.{◌≡◌, ◌<◌, ℕ, Bool, true, false, Option, Some, None, arith, refl, sym, ◌∙◌, subst}
use Rattle.std.specs.Prelude.{nat_lt, if◌then◌else◌}
use Rattle.std.proofs.lemmas.Bool.Decides.{nat_tests}
use Rattle.std.proofs.lemmas.Bool.{true≢false}
use Rattle.dri_model.specs.Heaps.{Spot}
use Rattle.dri_model.specs.Shares.{IsRoomFor, fits_above, lowest_shared, room_for, spot_above}
use Rattle.dri_model.proofs.Rooms.{below_has, none_below}

some_spot : (a b : Spot) → Some a ≡ Some b → a ≡ b
some_spot a b e = cc

no_spot : {o : Option Spot} {r : Spot} → o ≡ None → o ≡ Some r → ⊥
no_spot a b = grind arith

module _ (size : ℕ) (levels : ℕ → Option ℕ) (blocks : ℕ) where
  abbrev place : ℕ
  place = lowest_shared size levels blocks

  by_level : (o : Option ℕ) → levels place ≡ o → (room : Spot) → place < 64 → fits_above size blocks o ≡ true → spot_above place o ≡ Some room → IsRoomFor size levels blocks room
  by_level None l room lt fits e = absurd (true≢false (sym fits))
  by_level (Some v) l room lt fits e = subst (IsRoomFor size levels blocks) (some_spot _ room e) (record {
    level = l;
    fits = grind (arith, nat_tests);
    one = refl;
    lowest = none_below (λ k. fits_above size blocks (levels k)) 64;
  })

  -- what is found is the room
  pub found_is : (room : Spot) → room_for size levels blocks ≡ Some room → IsRoomFor size levels blocks room
  found_is room e = by_number (nat_lt place 64) refl e
    where
      by_number : (b : Bool) → nat_lt place 64 ≡ b → (if b then spot_above place (levels place) else None) ≡ Some room → IsRoomFor size levels blocks room
      by_number true lt g = by_level (levels place) refl room (grind (arith, nat_tests)) (below_has (λ k. fits_above size blocks (levels k)) 64 (grind (arith, nat_tests))) g
      by_number false lt g = absurd (no_spot refl g)

  fits_none : (k : ℕ) → fits_above size blocks (levels k) ≡ true → levels k ≡ None → ⊥
  fits_none k fits n = true≢false (sym fits ∙ rw n refl)

  -- where none is found, no region has room
  pub none_is : room_for size levels blocks ≡ None → (k : ℕ) → k < 64 → fits_above size blocks (levels k) ≡ false
  none_is e k lt = by_number (nat_lt place 64) refl e
    where
      there : (o : Option ℕ) → levels place ≡ o → fits_above size blocks o ≡ true → spot_above place o ≡ None → ⊥
      there None l fits g = true≢false (sym fits)
      there (Some v) l fits g = absurd (no_spot g refl)

      by_number : (b : Bool) → nat_lt place 64 ≡ b → (if b then spot_above place (levels place) else None) ≡ None → fits_above size blocks (levels k) ≡ false
      by_number true le g = absurd (there (levels place) refl (below_has (λ j. fits_above size blocks (levels j)) 64 (grind (arith, nat_tests))) g)
      by_number false le g = none_below (λ j. fits_above size blocks (levels j)) 64 k (grind (arith, nat_tests))
