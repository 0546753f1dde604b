-- Words that a reader has taken begin some register words, and where it takes no more they go wrong.
use Rattle.std.proofs.Common.{◌≡◌, ℕ, zero, suc, ◌+◌, ◌/◌, ◌%◌, ◌<◌, ◌≤◌, List, [], ◌∷◌, ◌++◌, length, get_or, take, Some, None, Bool, true, false, ◌==◌, ◌&&◌, ◌||◌, if◌then◌else◌, refl, sym, ap, ◌∙◌, arith}
use Rattle.std.proofs.lemmas.Bool.{cond-true}
use Rattle.std.proofs.lemmas.Option.{slice_get-get_or, same_Some, none-some}
use Rattle.dri_base.specs.declared.state.Registers.{Registers}
use Rattle.dri_base.specs.declared.state.Shade.TheVariants as Shade_is
use Rattle.dri_base.specs.declared.state.DepthFunc.TheVariants as Depth_is
use Rattle.dri_base.specs.declared.state.Blend.TheVariants as Blend_is
use Rattle.dri_base.specs.declared.state.TexMode.TheVariants as Mode_is
use Rattle.dri_base.specs.declared.state.Wrap.TheVariants as Wrap_is
use Rattle.dri_model.specs.Words.{Spelled}
use Rattle.dri_model.specs.WordFaults.{Begins, IsWrongWord, IsCutShort}
use Rattle.dri_context.specs.Reading.{Reader, IsReader, is_texture_side, size, depth_of, bound_of, scissor_of, after, run, opened}
use Rattle.dri_context.proofs.Runs.{run-append, run_more}
use Rattle.dri_context.proofs.Accepted.{between, accepted}
use Rattle.dri_context.proofs.Complete.{complete}

-- some words bring the reader between groups
record Fills (r : Reader) : Type 0 where
  rest : List ℕ
  reader : Reader
  comes : run (Some r) rest ≡ Some reader
  done : reader.at ≡ 0

small_size : (b c : Bool) → (if b then 2 else (if c then 3 else 1)) ≤ 3
small_size true c = omega arith
small_size false true = omega arith
small_size false false = omega arith

either : (b : Bool) → (if b then true else true) ≡ true
either true = refl
either false = refl

sides : (b : Bool) → (if b then (if b then 0 else 65537) == 0 else (is_texture_side ((if b then 0 else 65537) % 65536) && is_texture_side ((if b then 0 else 65537) / 65536))) ≡ true
sides true = refl
sides false = refl

abbrev place : Registers → ℕ → ℕ → ℕ → ℕ → Reader
place r g a f s = record { registers = r; group = g; at = a; first = f; second = s }

third_bound : (r : Registers) (f s : ℕ) → Fills (place r 5 3 f s)
third_bound r f s =
    let w : ℕ = if f == 0 then 0 else 65537 in
    let end : Reader = between 6 (record r { bound = bound_of f s w }) f s in
    record {
      rest = w ∷ [];
      reader = end;
      comes = ap (λ o. run o []) (cond-true (if f == 0 then w == 0 else (is_texture_side (w % 65536) && is_texture_side (w / 65536))) (Some end) None (sides (f == 0)));
      done = refl;
    }

third_scissor : (r : Registers) (f s : ℕ) → Fills (place r 6 3 f s)
third_scissor r f s =
    let end : Reader = between 7 (record r { scissor = scissor_of f s 0 }) f s in
    record { rest = 0 ∷ []; reader = end; comes = ap (λ o. run o []) (cond-true (if f == 0 then true else true) (Some end) None (either (f == 0))); done = refl }

second_bound : (r : Registers) (f s : ℕ) → Fills (place r 5 2 f s)
second_bound r f s =
    let t = third_bound r f 0 in
    record { rest = 0 ∷ t.rest; reader = t.reader; comes = ap (λ o. run o t.rest) (cond-true (if f == 0 then true else true) (Some (place r 5 3 f 0)) None (either (f == 0))) ∙ t.comes; done = t.done }

second_scissor : (r : Registers) (f s : ℕ) → Fills (place r 6 2 f s)
second_scissor r f s =
    let t = third_scissor r f 0 in
    record { rest = 0 ∷ t.rest; reader = t.reader; comes = ap (λ o. run o t.rest) (cond-true (if f == 0 then true else true) (Some (place r 6 3 f 0)) None (either (f == 0))) ∙ t.comes; done = t.done }

first_word : (r : Registers) (g f s : ℕ) → g ≤ 6 → Fills (place r g 1 f s)
first_word r zero f s some = record { rest = 0 ∷ []; reader = between 1 (record r { shade = Shade_is.Flat }) f s; comes = refl; done = refl }
first_word r (suc zero) f s some = record { rest = 0 ∷ 0 ∷ []; reader = between 2 (record r { depth_func = Depth_is.Never; depth_write = false }) 0 s; comes = refl; done = refl }
first_word r (suc (suc zero)) f s some = record { rest = 0 ∷ []; reader = between 3 (record r { blend = Blend_is.Off }) f s; comes = refl; done = refl }
first_word r (suc (suc (suc zero))) f s some = record { rest = 0 ∷ []; reader = between 4 (record r { tex_mode = Mode_is.Off }) f s; comes = refl; done = refl }
first_word r (suc (suc (suc (suc zero)))) f s some = record { rest = 0 ∷ []; reader = between 5 (record r { wrap = Wrap_is.Repeat }) f s; comes = refl; done = refl }
first_word r (suc (suc (suc (suc (suc zero))))) f s some = record { rest = 0 ∷ 0 ∷ 0 ∷ []; reader = between 6 (record r { bound = None }) 0 0; comes = refl; done = refl }
first_word r (suc (suc (suc (suc (suc (suc zero)))))) f s some = record { rest = 0 ∷ 0 ∷ 0 ∷ []; reader = between 7 (record r { scissor = None }) 0 0; comes = refl; done = refl }
first_word r (suc (suc (suc (suc (suc (suc (suc g))))))) f s some = absurd (omega (arith, some))

second_word : (r : Registers) (g f s : ℕ) → g ≤ 6 → 2 ≤ size g → Fills (place r g 2 f s)
second_word r zero f s some long = absurd (omega (arith, long))
second_word r (suc zero) f s some long = record { rest = 0 ∷ []; reader = between 2 (record r { depth_func = depth_of f; depth_write = false }) f s; comes = refl; done = refl }
second_word r (suc (suc zero)) f s some long = absurd (omega (arith, long))
second_word r (suc (suc (suc zero))) f s some long = absurd (omega (arith, long))
second_word r (suc (suc (suc (suc zero)))) f s some long = absurd (omega (arith, long))
second_word r (suc (suc (suc (suc (suc zero))))) f s some long = second_bound r f s
second_word r (suc (suc (suc (suc (suc (suc zero)))))) f s some long = second_scissor r f s
second_word r (suc (suc (suc (suc (suc (suc (suc g))))))) f s some long = absurd (omega (arith, some))

third_word : (r : Registers) (g f s : ℕ) → g ≤ 6 → 3 ≤ size g → Fills (place r g 3 f s)
third_word r zero f s some long = absurd (omega (arith, long))
third_word r (suc zero) f s some long = absurd (omega (arith, long))
third_word r (suc (suc zero)) f s some long = absurd (omega (arith, long))
third_word r (suc (suc (suc zero))) f s some long = absurd (omega (arith, long))
third_word r (suc (suc (suc (suc zero)))) f s some long = absurd (omega (arith, long))
third_word r (suc (suc (suc (suc (suc zero))))) f s some long = third_bound r f s
third_word r (suc (suc (suc (suc (suc (suc zero)))))) f s some long = third_scissor r f s
third_word r (suc (suc (suc (suc (suc (suc (suc g))))))) f s some long = absurd (omega (arith, some))

suc_zero : (n : ℕ) → suc n ≡ 0 → ⊥
suc_zero n e = omega (arith, e)

fills : (r : Registers) (g a f s : ℕ) → ((a ≡ 0 → ⊥) → g ≤ 6) → a ≤ size g → Fills (place r g a f s)
fills r g zero f s within long = record { rest = []; reader = place r g 0 f s; comes = refl; done = refl }
fills r g (suc zero) f s within long = first_word r g f s (within (suc_zero 0))
fills r g (suc (suc zero)) f s within long = second_word r g f s (within (suc_zero 1)) long
fills r g (suc (suc (suc zero))) f s within long = third_word r g f s (within (suc_zero 2)) long
fills r g (suc (suc (suc (suc a)))) f s within long = absurd (omega (arith, long, small_size (g == 1) (g == 5 || g == 6)))

-- what a reader has taken begins some register words
begun : (old : Registers) (words : List ℕ) (r : Reader) → run (Some (opened old)) words ≡ Some r → IsReader r → Begins Spelled words
begun old words r ran is =
    let t = fills r.registers r.group r.at r.first r.second is.within is.place in
    let all : run (Some (opened old)) (words ++ t.rest) ≡ Some t.reader = run-append (Some (opened old)) words t.rest ∙ ap (λ o. run o t.rest) ran ∙ t.comes in
    (t.rest, (accepted old (words ++ t.rest) t.reader all t.done).0)

run_none : (ws : List ℕ) → run None ws ≡ None
run_none ws = refl

pub wrong_word : (old : Registers) (words : List ℕ) (at : ℕ) (r : Reader) → at < length words → run (Some (opened old)) (take at words) ≡ Some r → IsReader r → after r (get_or words at 0) ≡ None → IsWrongWord Spelled words at (get_or words at 0)
wrong_word old words at r within ran is none = record {
  there = slice_get-get_or words at 0 within;
  before = begun old (take at words) r ran is;
  wrong = λ b.
      let t = complete old (take (at + 1) words ++ b.0) b.1 in
      none-some t.0 (sym (run-append (Some (opened old)) (take (at + 1) words) b.0 ∙ ap (λ o. run o b.0) (run_more (Some (opened old)) words at r within ran ∙ none) ∙ run_none b.0) ∙ t.1);
}

pub cut_short : (old : Registers) (words : List ℕ) (r : Reader) → run (Some (opened old)) words ≡ Some r → IsReader r → (r.at ≡ 0 → ⊥) → IsCutShort Spelled words (length words) 0
cut_short old words r ran is inside = record {
  end = refl;
  zero = refl;
  before = begun old words r ran is;
  short = λ spelled. let t = complete old words spelled in inside (ap (λ x. x.at) (same_Some r t.0 (sym ran ∙ t.1)) ∙ t.2);
}
