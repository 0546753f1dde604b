-- Where there is room in the shared regions.
use Rattle.std.proofs.Common.{◌≡◌, ◌<◌, ◌+◌, ◌/◌, ℕ, Bool, true, false, Option, Some, None, arith, refl, sym, ◌∙◌}
use Rattle.std.specs.Prelude.{nat_le, nat_lt}
use Rattle.std.proofs.lemmas.Bool.{true≢false}
use Rattle.std.proofs.lemmas.Bool.Decides.{nat_tests}
use Rattle.dri_model.specs.Shares.{fits_above, lowest_shared, room_for}
use Rattle.dri_model.proofs.Rooms.{below_has, none_below}

module _ (size : ℕ) (levels : ℕ → Option ℕ) (blocks : ℕ) where
  abbrev fits : ℕ → Bool
  fits k = fits_above size blocks (levels k)

  -- nowhere among the regions
  pub no_room : ((k : ℕ) → k < 64 → fits_above size blocks (levels k) ≡ false) → room_for size levels blocks ≡ None
  no_room none = by (nat_lt (lowest_shared size levels blocks) 64) refl
    where
      by : (b : Bool) → nat_lt (lowest_shared size levels blocks) 64 ≡ b → room_for size levels blocks ≡ None
      by false e = rw e refl
      by true e = let less : lowest_shared size levels blocks < 64 = grind (arith, nat_tests) in
          absurd (true≢false (sym (below_has fits 64 less) ∙ none (lowest_shared size levels blocks) less))

  -- in the first region where it fits
  pub first_room : (k level : ℕ) → k < 64 → ((j : ℕ) → j < k → fits_above size blocks (levels j) ≡ false) → levels k ≡ Some level → nat_le (level + blocks) (size / 64) ≡ true
      → room_for size levels blocks ≡ Some (record { run = record { first = k; count = 1 }; block = level })
  first_room k level below none is fit = rw (lowest, small, is) refl
    where
      here : fits k ≡ true
      here = rw is fit

      not_less : lowest_shared size levels blocks < k → ⊥
      not_less l = true≢false (sym (below_has fits 64 (omega (arith, l, below))) ∙ none (lowest_shared size levels blocks) l)

      not_more : k < lowest_shared size levels blocks → ⊥
      not_more l = true≢false (sym here ∙ none_below fits 64 k l)

      lowest : lowest_shared size levels blocks ≡ k
      lowest = grind (arith, not_less, not_more)

      small : nat_lt k 64 ≡ true
      small = grind (arith, nat_tests)
