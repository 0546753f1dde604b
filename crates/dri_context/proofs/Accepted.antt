-- Words that a reader takes to their end spell some groups, and those are loaded.
use Rattle.std.proofs.Common.{◌≡◌, ℕ, ◌+◌, ◌-◌, ◌<◌, ◌≤◌, List, [], ◌∷◌, ◌++◌, Some, None, Bool, true, false, ◌==◌, ◌&&◌, nat_le, if◌then◌else◌, refl, sym, ap, subst, ◌∙◌, inl, inr, ◌⊎◌, arith}
use Rattle.std.proofs.lemmas.Bool.{cases_Bool, cases_eq, cond-true, cond-false, and_parts, and_from, leb-true, le-leb, ltb-true}
use Rattle.std.proofs.lemmas.Option.{same_Some, none-some}
use Rattle.dri_base.specs.declared.state.Registers.{Registers}
use Rattle.dri_base.specs.States.{default_state}
use Rattle.dri_model.specs.Groups.{Groups, no_groups, shade_word, depth_word, flag_word, blend_word, mode_word, wrap_word}
use Rattle.dri_model.specs.Words.{registers_for, group_words, bound_words, scissor_words, loaded, IsBoundInRange, IsScissorInRange, Spelled}
use Rattle.dri_context.specs.Reading.{Reader, shade_of, depth_of, blend_of, mode_of, wrap_of, bound_of, scissor_of, run, opened}
use Rattle.dri_context.proofs.Runs.{word_step}
use Rattle.dri_context.proofs.Numbers.{shade_back, depth_back, flag_back, blend_back, mode_back, wrap_back, bound_back, scissor_back}

-- a reader between groups, and at a group's first word
abbrev pub between : ℕ → Registers → ℕ → ℕ → Reader
between k r f s = record { registers = r; group = k; at = 0; first = f; second = s }

abbrev pub within : ℕ → Registers → ℕ → ℕ → Reader
within k r f s = record { registers = r; group = k; at = 1; first = f; second = s }

-- the words of the groups from one on
abbrev pub from6 : Groups → Registers → List ℕ
from6 g r = group_words g.scissor 6 (scissor_words r.scissor)

abbrev pub from5 : Groups → Registers → List ℕ
from5 g r = group_words g.bound 5 (bound_words r.bound) ++ from6 g r

abbrev pub from4 : Groups → Registers → List ℕ
from4 g r = group_words g.wrap 4 (wrap_word r.wrap ∷ []) ++ from5 g r

abbrev pub from3 : Groups → Registers → List ℕ
from3 g r = group_words g.mode 3 (mode_word r.tex_mode ∷ []) ++ from4 g r

abbrev pub from2 : Groups → Registers → List ℕ
from2 g r = group_words g.blend 2 (blend_word r.blend ∷ []) ++ from3 g r

abbrev pub from1 : Groups → Registers → List ℕ
from1 g r = group_words g.depth 1 (depth_word r.depth_func ∷ flag_word r.depth_write ∷ []) ++ from2 g r

abbrev pub from0 : Groups → Registers → List ℕ
from0 g r = group_words g.shade 0 (shade_word r.shade ∷ []) ++ from1 g r

-- the registers with those groups
abbrev pub load6 : Groups → Registers → Registers → Registers
load6 g r old = record old { scissor = if g.scissor then r.scissor else old.scissor }

abbrev pub load5 : Groups → Registers → Registers → Registers
load5 g r old = load6 g r (record old { bound = if g.bound then r.bound else old.bound })

abbrev pub load4 : Groups → Registers → Registers → Registers
load4 g r old = load5 g r (record old { wrap = if g.wrap then r.wrap else old.wrap })

abbrev pub load3 : Groups → Registers → Registers → Registers
load3 g r old = load4 g r (record old { tex_mode = if g.mode then r.tex_mode else old.tex_mode })

abbrev pub load2 : Groups → Registers → Registers → Registers
load2 g r old = load3 g r (record old { blend = if g.blend then r.blend else old.blend })

abbrev pub load1 : Groups → Registers → Registers → Registers
load1 g r old = load2 g r (record old { depth_func = if g.depth then r.depth_func else old.depth_func; depth_write = if g.depth then r.depth_write else old.depth_write })

abbrev pub load0 : Groups → Registers → Registers → Registers
load0 g r old = load1 g r (record old { shade = if g.shade then r.shade else old.shade })

-- what words from one group on were read as
pub record Read (from : Groups → Registers → List ℕ) (load : Groups → Registers → Registers → Registers) (words : List ℕ) (old new : Registers) : Type 0 where
  pub groups : Groups
  pub registers : Registers
  pub bound : IsBoundInRange registers.bound
  pub scissor : IsScissorInRange registers.scissor
  pub spells : words ≡ from groups registers
  pub loads : new ≡ load groups registers old

-- a first word is the header of group k, or the reader might as well wait for a later one
header_cases : (k : ℕ) (r : Registers) (f s w : ℕ) (ws : List ℕ) (e : Reader) → run (Some (between k r f s)) (w ∷ ws) ≡ Some e
    → ((w ≡ 0x52000000 + k) × (run (Some (within k r f s)) ws ≡ Some e)) ⊎ (run (Some (between (k + 1) r f s)) (w ∷ ws) ≡ Some e)
header_cases k r f s w ws e ran =
    let inner : Reader = record { registers = r; group = w - 0x52000000; at = 1; first = f; second = s } in
    let low : Bool = nat_le (0x52000000 + k) w in
    let high : Bool = nat_le w 0x52000006 in
    let later : Bool = nat_le (0x52000000 + (k + 1)) w in
    let G : Type 0 = ((w ≡ 0x52000000 + k) × (run (Some (within k r f s)) ws ≡ Some e)) ⊎ (run (Some (between (k + 1) r f s)) (w ∷ ws) ≡ Some e) in
    elim (cases_Bool (low && high)) as (λ _. G) [
      | inl told ↦
          let parts = and_parts low high told in
          let least : 0x52000000 + k ≤ w = leb-true (0x52000000 + k) w parts.0 in
          let goes : run (Some inner) ws ≡ Some e = sym (ap (λ o. run o ws) (cond-true (low && high) (Some inner) None told)) ∙ ran in
          elim (cases_eq w (0x52000000 + k)) as (λ _. G) [
            | inl same ↦
                let number : w - 0x52000000 ≡ k = omega arith in
                inl (same, subst (λ n. run (Some (record { registers = r; group = n; at = 1; first = f; second = s })) ws ≡ Some e) number goes)
            | inr other ↦
                let more : 0x52000000 + (k + 1) ≤ w = omega (arith, other) in
                inr (ap (λ o. run o ws) (cond-true (later && high) (Some inner) None (and_from later high (le-leb (0x52000000 + (k + 1)) w more) parts.1)) ∙ goes)
          ]
      | inr out ↦ absurd (none-some e (sym (ap (λ o. run o ws) (cond-false (low && high) (Some inner) None out)) ∙ ran))
    ]

-- behind the last group no word comes
accepted7 : (r : Registers) (f s : ℕ) (words : List ℕ) (e : Reader) → run (Some (between 7 r f s)) words ≡ Some e → (words ≡ []) × (e.registers ≡ r)
accepted7 r f s [] e ran = (refl, ap (λ x. x.registers) (sym (same_Some (between 7 r f s) e ran)))
accepted7 r f s (w ∷ ws) e ran =
    let inner : Reader = record { registers = r; group = w - 0x52000000; at = 1; first = f; second = s } in
    let low : Bool = nat_le 0x52000007 w in
    let high : Bool = nat_le w 0x52000006 in
    elim (cases_Bool (low && high)) as (λ _. (w ∷ ws ≡ []) × (e.registers ≡ r)) [
      | inl told ↦ let parts = and_parts low high told in absurd (omega (arith, leb-true 0x52000007 w parts.0, leb-true w 0x52000006 parts.1))
      | inr out ↦ absurd (none-some e (sym (ap (λ o. run o ws) (cond-false (low && high) (Some inner) None out)) ∙ ran))
    ]

cons_nil : {x : ℕ} {xs : List ℕ} → x ∷ xs ≡ [] → ⊥
cons_nil e = grind arith

-- a reader that stands within a group isn't done
not_done : (a b : Reader) → a ≡ b → b.at ≡ 0 → 0 < a.at → ⊥
not_done a b same end inside = let e : a.at ≡ b.at = ap (λ x. x.at) same in omega (arith, e, end, inside)

abbrev plain : Registers
plain = registers_for default_state None

accepted6 : (r : Registers) (f s : ℕ) (words : List ℕ) (e : Reader) → run (Some (between 6 r f s)) words ≡ Some e → e.at ≡ 0 → Read from6 load6 words r e.registers
accepted6 r f s [] e ran end = record { groups = no_groups; registers = plain; bound = tt; scissor = tt; spells = refl; loads = ap (λ x. x.registers) (sym (same_Some (between 6 r f s) e ran)) }
accepted6 r f s (w ∷ ws) e ran end = elim (header_cases 6 r f s w ws e ran) as (λ _. Read from6 load6 (w ∷ ws) r e.registers) [
  | inr other ↦ absurd (cons_nil (accepted7 r f s (w ∷ ws) e other).0)
  | inl here ↦ elim (word_step (within 6 r f s) e ws refl here.1) as (λ _. Read from6 load6 (w ∷ ws) r e.registers) [
    | inl stop ↦ absurd (not_done (within 6 r f s) e stop end (omega arith))
    | inr one ↦
        let u : ℕ = one.0 in
        let second : Reader = record { registers = r; group = 6; at = 2; first = u; second = s } in
        elim (word_step second e one.1 refl one.4) as (λ _. Read from6 load6 (w ∷ ws) r e.registers) [
          | inl stop ↦ absurd (not_done second e stop end (omega arith))
          | inr two ↦
              let v : ℕ = two.0 in
              let third : Reader = record { registers = r; group = 6; at = 3; first = u; second = v } in
              elim (word_step third e two.1 refl two.4) as (λ _. Read from6 load6 (w ∷ ws) r e.registers) [
                | inl stop ↦ absurd (not_done third e stop end (omega arith))
                | inr last ↦
                    let l : ℕ = last.0 in
                    let value = scissor_of u v l in
                    let back = scissor_back u v l (ltb-true u 2 one.3) two.3 last.3 in
                    let done = accepted7 (record r { scissor = value }) u v last.1 e last.4 in
                    record {
                      groups = record no_groups { scissor = true };
                      registers = record plain { scissor = value };
                      bound = tt;
                      scissor = back.1;
                      spells = ap (λ n. n ∷ ws) here.0 ∙ ap (λ t. 0x52000006 ∷ t) (one.2 ∙ ap (λ t. u ∷ t) (two.2 ∙ ap (λ t. v ∷ t) (last.2 ∙ ap (λ t. l ∷ t) done.0)) ∙ sym back.0);
                      loads = done.1;
                    }
              ]
        ]
  ]
]

accepted5 : (r : Registers) (f s : ℕ) (words : List ℕ) (e : Reader) → run (Some (between 5 r f s)) words ≡ Some e → e.at ≡ 0 → Read from5 load5 words r e.registers
accepted5 r f s [] e ran end = later5 r e [] (accepted6 r f s [] (between 6 r f s) refl refl) (ap (λ x. x.registers) (sym (same_Some (between 5 r f s) e ran)))
  where
    later5 : (r : Registers) (e : Reader) (words : List ℕ) → Read from6 load6 words r r → e.registers ≡ r → Read from5 load5 words r e.registers
    later5 r e words t same = record { groups = record t.groups { bound = false }; registers = t.registers; bound = t.bound; scissor = t.scissor; spells = t.spells; loads = same ∙ t.loads }
accepted5 r f s (w ∷ ws) e ran end = elim (header_cases 5 r f s w ws e ran) as (λ _. Read from5 load5 (w ∷ ws) r e.registers) [
  | inr other ↦ let t = accepted6 r f s (w ∷ ws) e other end in record { groups = record t.groups { bound = false }; registers = t.registers; bound = t.bound; scissor = t.scissor; spells = t.spells; loads = t.loads }
  | inl here ↦ elim (word_step (within 5 r f s) e ws refl here.1) as (λ _. Read from5 load5 (w ∷ ws) r e.registers) [
    | inl stop ↦ absurd (not_done (within 5 r f s) e stop end (omega arith))
    | inr one ↦
        let u : ℕ = one.0 in
        let second : Reader = record { registers = r; group = 5; at = 2; first = u; second = s } in
        elim (word_step second e one.1 refl one.4) as (λ _. Read from5 load5 (w ∷ ws) r e.registers) [
          | inl stop ↦ absurd (not_done second e stop end (omega arith))
          | inr two ↦
              let v : ℕ = two.0 in
              let third : Reader = record { registers = r; group = 5; at = 3; first = u; second = v } in
              elim (word_step third e two.1 refl two.4) as (λ _. Read from5 load5 (w ∷ ws) r e.registers) [
                | inl stop ↦ absurd (not_done third e stop end (omega arith))
                | inr last ↦
                    let l : ℕ = last.0 in
                    let value = bound_of u v l in
                    let back = bound_back u v l (ltb-true u 3 one.3) two.3 last.3 in
                    let t = accepted6 (record r { bound = value }) u v last.1 e last.4 end in
                    record {
                      groups = record t.groups { bound = true };
                      registers = record t.registers { bound = value };
                      bound = back.1;
                      scissor = t.scissor;
                      spells = ap (λ n. n ∷ ws) here.0 ∙ ap (λ x. 0x52000005 ∷ x) (one.2 ∙ ap (λ x. u ∷ x) (two.2 ∙ ap (λ x. v ∷ x) (last.2 ∙ ap (λ x. l ∷ x) t.spells)) ∙ ap (λ x. x ++ from6 t.groups t.registers) (sym back.0));
                      loads = t.loads;
                    }
              ]
        ]
  ]
]

accepted4 : (r : Registers) (f s : ℕ) (words : List ℕ) (e : Reader) → run (Some (between 4 r f s)) words ≡ Some e → e.at ≡ 0 → Read from4 load4 words r e.registers
accepted4 r f s [] e ran end = none r e (accepted5 r f s [] (between 5 r f s) refl refl) (ap (λ x. x.registers) (sym (same_Some (between 4 r f s) e ran)))
  where
    none : (r : Registers) (e : Reader) → Read from5 load5 [] r r → e.registers ≡ r → Read from4 load4 [] r e.registers
    none r e t same = record { groups = record t.groups { wrap = false }; registers = t.registers; bound = t.bound; scissor = t.scissor; spells = t.spells; loads = same ∙ t.loads }
accepted4 r f s (w ∷ ws) e ran end = elim (header_cases 4 r f s w ws e ran) as (λ _. Read from4 load4 (w ∷ ws) r e.registers) [
  | inr other ↦ let t = accepted5 r f s (w ∷ ws) e other end in record { groups = record t.groups { wrap = false }; registers = t.registers; bound = t.bound; scissor = t.scissor; spells = t.spells; loads = t.loads }
  | inl here ↦ elim (word_step (within 4 r f s) e ws refl here.1) as (λ _. Read from4 load4 (w ∷ ws) r e.registers) [
    | inl stop ↦ absurd (not_done (within 4 r f s) e stop end (omega arith))
    | inr last ↦
        let l : ℕ = last.0 in
        let t = accepted5 (record r { wrap = wrap_of l }) f s last.1 e last.4 end in
        record {
          groups = record t.groups { wrap = true };
          registers = record t.registers { wrap = wrap_of l };
          bound = t.bound;
          scissor = t.scissor;
          spells = ap (λ n. n ∷ ws) here.0 ∙ ap (λ x. 0x52000004 ∷ x) (last.2 ∙ ap (λ n. n ∷ last.1) (sym (wrap_back l (ltb-true l 2 last.3))) ∙ ap (λ x. wrap_word (wrap_of l) ∷ x) t.spells);
          loads = t.loads;
        }
  ]
]

accepted3 : (r : Registers) (f s : ℕ) (words : List ℕ) (e : Reader) → run (Some (between 3 r f s)) words ≡ Some e → e.at ≡ 0 → Read from3 load3 words r e.registers
accepted3 r f s [] e ran end = none r e (accepted4 r f s [] (between 4 r f s) refl refl) (ap (λ x. x.registers) (sym (same_Some (between 3 r f s) e ran)))
  where
    none : (r : Registers) (e : Reader) → Read from4 load4 [] r r → e.registers ≡ r → Read from3 load3 [] r e.registers
    none r e t same = record { groups = record t.groups { mode = false }; registers = t.registers; bound = t.bound; scissor = t.scissor; spells = t.spells; loads = same ∙ t.loads }
accepted3 r f s (w ∷ ws) e ran end = elim (header_cases 3 r f s w ws e ran) as (λ _. Read from3 load3 (w ∷ ws) r e.registers) [
  | inr other ↦ let t = accepted4 r f s (w ∷ ws) e other end in record { groups = record t.groups { mode = false }; registers = t.registers; bound = t.bound; scissor = t.scissor; spells = t.spells; loads = t.loads }
  | inl here ↦ elim (word_step (within 3 r f s) e ws refl here.1) as (λ _. Read from3 load3 (w ∷ ws) r e.registers) [
    | inl stop ↦ absurd (not_done (within 3 r f s) e stop end (omega arith))
    | inr last ↦
        let l : ℕ = last.0 in
        let t = accepted4 (record r { tex_mode = mode_of l }) f s last.1 e last.4 end in
        record {
          groups = record t.groups { mode = true };
          registers = record t.registers { tex_mode = mode_of l };
          bound = t.bound;
          scissor = t.scissor;
          spells = ap (λ n. n ∷ ws) here.0 ∙ ap (λ x. 0x52000003 ∷ x) (last.2 ∙ ap (λ n. n ∷ last.1) (sym (mode_back l (ltb-true l 3 last.3))) ∙ ap (λ x. mode_word (mode_of l) ∷ x) t.spells);
          loads = t.loads;
        }
  ]
]

accepted2 : (r : Registers) (f s : ℕ) (words : List ℕ) (e : Reader) → run (Some (between 2 r f s)) words ≡ Some e → e.at ≡ 0 → Read from2 load2 words r e.registers
accepted2 r f s [] e ran end = none r e (accepted3 r f s [] (between 3 r f s) refl refl) (ap (λ x. x.registers) (sym (same_Some (between 2 r f s) e ran)))
  where
    none : (r : Registers) (e : Reader) → Read from3 load3 [] r r → e.registers ≡ r → Read from2 load2 [] r e.registers
    none r e t same = record { groups = record t.groups { blend = false }; registers = t.registers; bound = t.bound; scissor = t.scissor; spells = t.spells; loads = same ∙ t.loads }
accepted2 r f s (w ∷ ws) e ran end = elim (header_cases 2 r f s w ws e ran) as (λ _. Read from2 load2 (w ∷ ws) r e.registers) [
  | inr other ↦ let t = accepted3 r f s (w ∷ ws) e other end in record { groups = record t.groups { blend = false }; registers = t.registers; bound = t.bound; scissor = t.scissor; spells = t.spells; loads = t.loads }
  | inl here ↦ elim (word_step (within 2 r f s) e ws refl here.1) as (λ _. Read from2 load2 (w ∷ ws) r e.registers) [
    | inl stop ↦ absurd (not_done (within 2 r f s) e stop end (omega arith))
    | inr last ↦
        let l : ℕ = last.0 in
        let t = accepted3 (record r { blend = blend_of l }) f s last.1 e last.4 end in
        record {
          groups = record t.groups { blend = true };
          registers = record t.registers { blend = blend_of l };
          bound = t.bound;
          scissor = t.scissor;
          spells = ap (λ n. n ∷ ws) here.0 ∙ ap (λ x. 0x52000002 ∷ x) (last.2 ∙ ap (λ n. n ∷ last.1) (sym (blend_back l (ltb-true l 3 last.3))) ∙ ap (λ x. blend_word (blend_of l) ∷ x) t.spells);
          loads = t.loads;
        }
  ]
]

accepted1 : (r : Registers) (f s : ℕ) (words : List ℕ) (e : Reader) → run (Some (between 1 r f s)) words ≡ Some e → e.at ≡ 0 → Read from1 load1 words r e.registers
accepted1 r f s [] e ran end = none r e (accepted2 r f s [] (between 2 r f s) refl refl) (ap (λ x. x.registers) (sym (same_Some (between 1 r f s) e ran)))
  where
    none : (r : Registers) (e : Reader) → Read from2 load2 [] r r → e.registers ≡ r → Read from1 load1 [] r e.registers
    none r e t same = record { groups = record t.groups { depth = false }; registers = t.registers; bound = t.bound; scissor = t.scissor; spells = t.spells; loads = same ∙ t.loads }
accepted1 r f s (w ∷ ws) e ran end = elim (header_cases 1 r f s w ws e ran) as (λ _. Read from1 load1 (w ∷ ws) r e.registers) [
  | inr other ↦ let t = accepted2 r f s (w ∷ ws) e other end in record { groups = record t.groups { depth = false }; registers = t.registers; bound = t.bound; scissor = t.scissor; spells = t.spells; loads = t.loads }
  | inl here ↦ elim (word_step (within 1 r f s) e ws refl here.1) as (λ _. Read from1 load1 (w ∷ ws) r e.registers) [
    | inl stop ↦ absurd (not_done (within 1 r f s) e stop end (omega arith))
    | inr one ↦
        let u : ℕ = one.0 in
        let second : Reader = record { registers = r; group = 1; at = 2; first = u; second = s } in
        elim (word_step second e one.1 refl one.4) as (λ _. Read from1 load1 (w ∷ ws) r e.registers) [
          | inl stop ↦ absurd (not_done second e stop end (omega arith))
          | inr last ↦
              let l : ℕ = last.0 in
              let t = accepted2 (record r { depth_func = depth_of u; depth_write = l == 1 }) u s last.1 e last.4 end in
              record {
                groups = record t.groups { depth = true };
                registers = record t.registers { depth_func = depth_of u; depth_write = l == 1 };
                bound = t.bound;
                scissor = t.scissor;
                spells = ap (λ n. n ∷ ws) here.0 ∙ ap (λ x. 0x52000001 ∷ x) (one.2 ∙ ap (λ n. n ∷ one.1) (sym (depth_back u (ltb-true u 8 one.3))) ∙ ap (λ x. depth_word (depth_of u) ∷ x) (last.2 ∙ ap (λ n. n ∷ last.1) (sym (flag_back l (ltb-true l 2 last.3))) ∙ ap (λ x. flag_word (l == 1) ∷ x) t.spells));
                loads = t.loads;
              }
        ]
  ]
]

accepted0 : (r : Registers) (f s : ℕ) (words : List ℕ) (e : Reader) → run (Some (between 0 r f s)) words ≡ Some e → e.at ≡ 0 → Read from0 load0 words r e.registers
accepted0 r f s [] e ran end = none r e (accepted1 r f s [] (between 1 r f s) refl refl) (ap (λ x. x.registers) (sym (same_Some (between 0 r f s) e ran)))
  where
    none : (r : Registers) (e : Reader) → Read from1 load1 [] r r → e.registers ≡ r → Read from0 load0 [] r e.registers
    none r e t same = record { groups = record t.groups { shade = false }; registers = t.registers; bound = t.bound; scissor = t.scissor; spells = t.spells; loads = same ∙ t.loads }
accepted0 r f s (w ∷ ws) e ran end = elim (header_cases 0 r f s w ws e ran) as (λ _. Read from0 load0 (w ∷ ws) r e.registers) [
  | inr other ↦ let t = accepted1 r f s (w ∷ ws) e other end in record { groups = record t.groups { shade = false }; registers = t.registers; bound = t.bound; scissor = t.scissor; spells = t.spells; loads = t.loads }
  | inl here ↦ elim (word_step (within 0 r f s) e ws refl here.1) as (λ _. Read from0 load0 (w ∷ ws) r e.registers) [
    | inl stop ↦ absurd (not_done (within 0 r f s) e stop end (omega arith))
    | inr last ↦
        let l : ℕ = last.0 in
        let t = accepted1 (record r { shade = shade_of l }) f s last.1 e last.4 end in
        record {
          groups = record t.groups { shade = true };
          registers = record t.registers { shade = shade_of l };
          bound = t.bound;
          scissor = t.scissor;
          spells = ap (λ n. n ∷ ws) here.0 ∙ ap (λ x. 0x52000000 ∷ x) (last.2 ∙ ap (λ n. n ∷ last.1) (sym (shade_back l (ltb-true l 2 last.3))) ∙ ap (λ x. shade_word (shade_of l) ∷ x) t.spells);
          loads = t.loads;
        }
  ]
]

-- words that are taken to their end are spelled, and loaded
pub accepted : (old : Registers) (words : List ℕ) (e : Reader) → run (Some (opened old)) words ≡ Some e → e.at ≡ 0 → (t : Spelled words) × (e.registers ≡ loaded t.groups t.registers old)
accepted old words e ran end =
    let t = accepted0 old 0 0 words e ran end in
    (record { groups = t.groups; registers = t.registers; bound = t.bound; scissor = t.scissor; spells = t.spells }, t.loads)
