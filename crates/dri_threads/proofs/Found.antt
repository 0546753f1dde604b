-- What a hold finds, and what a pass has seen after it.
use Rattle.std.proofs.Common.{◌≡◌, ◌≢◌, ℕ, zero, suc, ◌+◌, List, [], ◌∷◌, ◌++◌, cond, eqb, Bool, true, false, Some, refl, sym, ap, ◌∙◌, subst, arith}
use Rattle.std.specs.Prelude.{Contains}
use Rattle.std.specs.List.{All}
use Rattle.std.proofs.lemmas.Bool.Decides.{nat_tests}
use Rattle.std.proofs.lemmas.Option.{same_Some}
use Rattle.dri_base.specs.Ranges.{client_numbers}
use Rattle.dri_base.specs.declared.journal.Entry.{Entry}
use Rattle.dri_base.specs.declared.scene.Scene.{Scene}
use Rattle.dri_hwlock.specs.Entries.{Adds, StartsWith, mine}
use Rattle.dri_hwlock.specs.Tokens.{Token, IsSuccessor}
use Rattle.dri_hwlock.proofs.Lists.{mine-append}
use Rattle.dri_core.specs.Runs.{after, client_of, context_of}
use Rattle.dri_core.specs.Worlds.{World, opening}
use Rattle.dri_core.proofs.Laws.{foreign_entries, after_entries-append}
use Rattle.dri_core.proofs.Stays.{made_stays}
use Rattle.dri_shared.specs.States.{SharedState}
use Rattle.dri_driver.specs.Clients.{ClientState}
use Rattle.dri_threads.specs.Sessions.{IsSeated, Grows, Works, is_at_rest}
use Rattle.dri_threads.specs.Actors.{Stands, IsFound}

cancel : (xs ys : List Entry) → xs ++ ys ≡ xs → ys ≡ []
cancel [] ys e = e
cancel (x ∷ xs) ys e = cancel xs ys (cc)

-- where a journal goes on with no entry of a context, each of the later ones is another's
others_later : (x : ℕ) (seen later : List Entry) → mine context_of x (seen ++ later) ≡ mine context_of x seen → mine context_of x later ≡ []
others_later x seen later e = cancel (mine context_of x seen) (mine context_of x later) (sym (mine-append context_of x seen later) ∙ e)

first_other : (x : ℕ) (e : Entry) (es : List Entry) (b : Bool) → eqb (context_of e) x ≡ b → cond b (e ∷ mine context_of x es) (mine context_of x es) ≡ [] → (context_of e ≢ x) × (mine context_of x es ≡ [])
first_other x e es true is none = absurd (cc)
first_other x e es false is none = ((λ (h : context_of e ≡ x). absurd (grind (arith, nat_tests))), none)

none_of : (c : ℕ) (es : List Entry) → mine context_of (c + 1) es ≡ [] → All (λ e. client_of e ≢ c) es
none_of c [] none k d below = absurd (omega arith)
none_of c (e ∷ es) none zero d below = λ h. (first_other (c + 1) e es (eqb (context_of e) (c + 1)) refl none).0 (ap (λ n. n + 1) h)
none_of c (e ∷ es) none (suc k) d below = none_of c es (first_other (c + 1) e es (eqb (context_of e) (c + 1)) refl none).1 k d (omega arith)

-- others' entries leave a client's part
pub part_later : (s : Scene) (seen journal : List Entry) (c : ℕ) → StartsWith journal seen → mine context_of (c + 1) journal ≡ mine context_of (c + 1) seen → (after s journal).client c ≡ (after s seen).client c
part_later s seen journal c begins own =
    ap (λ (j : List Entry). (after s j).client c) begins.1 ∙
    (ap (λ (w : World). w.client c) (after_entries-append s (opening s) seen begins.0) ∙
    foreign_entries s (after s seen) begins.0 c (none_of c begins.0 (others_later (c + 1) seen begins.0 (ap (mine context_of (c + 1)) (sym begins.1) ∙ own))))

-- others' entries leave the number of changes made
pub made_later : (s : Scene) (seen journal : List Entry) → StartsWith journal seen → mine context_of 1 journal ≡ mine context_of 1 seen → (after s journal).made ≡ (after s seen).made
made_later s seen journal begins own =
    ap (λ (j : List Entry). (after s j).made) begins.1 ∙ made_stays s seen begins.0 (none_of 0 begins.0 (others_later 1 seen begins.0 (ap (mine context_of 1) (sym begins.1) ∙ own)))

-- a client that fits what its token has seen fits what its hold finds
pub seat_found : (t : Token Scene Entry) (k : ClientState) (v : SharedState) (c : ℕ) → Stands t k c → Some v.scene ≡ t.base → StartsWith v.journal t.seen → mine context_of t.context v.journal ≡ mine context_of t.context t.seen → IsSeated v k c
seat_found t k v c st base begins own = record {
  numbered = st.seated.numbered;
  fits = record {
    scene = sym scene;
    part = st.seated.fits.part ∙ (ap (λ n. (after k.scene t.seen).client n) st.seated.numbered ∙ (sym (part_later k.scene t.seen v.journal c begins (subst (λ x. mine context_of x v.journal ≡ mine context_of x t.seen) st.context own)) ∙ λ i. (after (sym scene i) v.journal).client (sym st.seated.numbered i)));
  };
  there = subst (λ (s : Scene). Contains (client_numbers s.clients) c) (sym scene) st.seated.there;
}
  where
    scene : v.scene ≡ k.scene
    scene = same_Some v.scene k.scene (base ∙ st.base)

-- a client stands by its pass after the hold
pub stands_again : (t u : Token Scene Entry) (v w : SharedState) (k l : ClientState) (c : ℕ) → IsFound (c + 1) t v → IsSuccessor t u → u.seen ≡ w.journal → Works c v w k l → k.dying ≡ false → is_at_rest l.phase ≡ true → Stands u l c
stands_again t u v w k l c found next seen works living rests = record {
  base = next.base ∙ (found.base ∙ ap Some (sym (works.seated.fits.scene ∙ works.grows.scene)));
  context = next.context ∙ found.context;
  seated = record {
    numbered = works.seated.numbered;
    fits = record {
      scene = refl;
      part = works.seated.fits.part ∙ λ i. (after (sym works.seated.fits.scene i) (sym seen i)).client l.number;
    };
    there = subst (λ (s : Scene). Contains (client_numbers s.clients) c) (sym works.seated.fits.scene) works.seated.there;
  };
  living = works.same.dying ∙ living;
  rests = rests;
}

-- what a hold adds, at its token
pub adds_found : (x : ℕ) (t : Token Scene Entry) (u v w : SharedState) → IsFound x t u → v ≡ u → Grows x v w → Adds context_of t.context t.seen w.journal
adds_found x t u v w found same grows = subst (λ (y : ℕ × List Entry). Adds context_of y.0 y.1 w.journal) (λ i. (sym found.context i, sym (found.seen ∙ ap (λ (z : SharedState). z.journal) (sym same)) i)) grows.adds

pub base_found : (x : ℕ) (t : Token Scene Entry) (u v w : SharedState) → IsFound x t u → v ≡ u → Grows x v w → Some w.scene ≡ t.base
base_found x t u v w found same grows = ap Some (grows.scene ∙ ap (λ (z : SharedState). z.scene) same) ∙ sym found.base
