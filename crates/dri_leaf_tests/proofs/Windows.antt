-- The windows on a board stay on it.
use Rattle.std.proofs.Common.{◌≡◌, ℕ, suc, List, [], ◌∷◌, Bool, true, false, refl, sym, subst, Contains}
use Rattle.std.specs.Prelude.{◌==◌}
use Rattle.dri_base.specs.declared.scene.Window.{Window}
use Rattle.dri_base.specs.Ranges.{window_numbers}
use Rattle.dri_clips.specs.Boards.{Screen}
use Rattle.dri_clips.specs.Layouts.{IsAbsent, IsPlaced, SameNumbers}
use Rattle.dri_clips.proofs.Placing.{not_absent, placed_contains}
use Rattle.dri_leaf_tests.specs.Boards.{HasBoth}

placed : (n : ℕ) (ws : List Window) → (IsAbsent n ws → ⊥) → (i : ℕ) × IsPlaced n i ws
placed n [] f = absurd (f tt)
placed n (w ∷ ws) f = by (w.number == n) refl (λ g. placed n ws g)
  where
    by : (b : Bool) → (w.number == n) ≡ b → ((IsAbsent n ws → ⊥) → (i : ℕ) × IsPlaced n i ws) → (i : ℕ) × IsPlaced n i (w ∷ ws)
    by true e below = (0, e)
    by false e below = let r = below (λ a. f (e, a)) in (suc r.0, (e, r.1))

still : (n : ℕ) (ws vs : List Window) → SameNumbers ws vs → Contains (window_numbers ws) n → Contains (window_numbers vs) n
still n ws vs same c = let r = placed n vs (λ a. not_absent n ws c.0 c.1 c.2 ((same n).1 a)) in placed_contains n r.0 vs r.1

pub still_both : (old new : Screen) (ws : List Window) → new.stack ≡ ws → SameNumbers old.stack ws → HasBoth old → HasBoth new
still_both old new ws is same has = record {
  first = subst (λ (vs : List Window). Contains (window_numbers vs) 1) (sym is) (still 1 old.stack ws same has.first);
  second = subst (λ (vs : List Window). Contains (window_numbers vs) 2) (sym is) (still 2 old.stack ws same has.second);
}
