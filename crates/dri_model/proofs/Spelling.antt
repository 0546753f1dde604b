-- Register words spell one thing.
use Rattle.std.proofs.Common.{◌≡◌, ◌<◌, ◌+◌, ℕ, List, [], ◌∷◌, ◌++◌, length, Bool, true, false, Option, Some, None, arith, refl, sym, ap, ◌∙◌}
use Rattle.std.specs.Prelude.{if◌then◌else◌}
use Rattle.std.proofs.lemmas.Bool.{true≢false}
use Rattle.dri_base.specs.declared.state.Registers.{Registers}
use Rattle.dri_base.specs.declared.texture.BoundTexture.{BoundTexture}
use Rattle.dri_base.specs.declared.shape.ClipRect.{ClipRect}
use Rattle.dri_base.specs.declared.texture.TexFormat.{TexFormat}
use Rattle.dri_base.specs.declared.texture.TexFormat.TheVariants.{L8, Rgb565}
use Rattle.dri_model.specs.Groups.{Groups, shade_word, depth_word, flag_word, blend_word, mode_word, wrap_word}
use Rattle.dri_model.specs.Words.{loaded, format_word, halves, bound_words, scissor_words, group_words, IsBoundInRange, IsScissorInRange, Spelled}
use Rattle.dri_model.proofs.Values.{shade_of, shade_is, flag_of, flag_is, depth_of, depth_is, blend_of, blend_is, mode_of, mode_is, wrap_of, wrap_is}

pub cons_same : (x y : ℕ) (xs ys : List ℕ) → x ∷ xs ≡ y ∷ ys → (x ≡ y) × (xs ≡ ys)
cons_same x y xs ys e = (cc, cc)

pub nil_cons : {x : ℕ} {xs : List ℕ} → [] ≡ x ∷ xs → ⊥
nil_cons e = grind arith

pub append_same : (xs ys r t : List ℕ) → length xs ≡ length ys → xs ++ r ≡ ys ++ t → (xs ≡ ys) × (r ≡ t)
append_same [] [] r t l e = (refl, e)
append_same [] (y ∷ ys) r t l e = absurd (omega (arith, l))
append_same (x ∷ xs) [] r t l e = absurd (omega (arith, l))
append_same (x ∷ xs) (y ∷ ys) r t l e =
    let h = cons_same x y (xs ++ r) (ys ++ t) e in
    let i = append_same xs ys r t (omega (arith, l)) h.1 in
    (λ k. h.0 k ∷ i.0 k, i.1)

-- the list begins with a header above that of group n, or is empty
abbrev Above : ℕ → List ℕ → Type 0
Above n [] = Unit {0}
Above n (h ∷ t) = 0x52000000 + n < h

above_less : (n m : ℕ) (l : List ℕ) → n < m → Above m l → Above n l
above_less n m [] lt a = tt
above_less n m (h ∷ t) lt a = omega (arith, lt, a)

above_group : (n m : ℕ) (b : Bool) (ws rest : List ℕ) → n < m → Above m rest → Above n (group_words b m ws ++ rest)
above_group n m true ws rest lt a = omega (arith, lt)
above_group n m false ws rest lt a = above_less n m rest lt a

above_last : (n m : ℕ) (b : Bool) (ws : List ℕ) → n < m → Above n (group_words b m ws)
above_last n m true ws lt = omega (arith, lt)
above_last n m false ws lt = tt

not_above : (n : ℕ) (ws rest : List ℕ) → Above n rest → (0x52000000 + n) ∷ ws ≡ rest → ⊥
not_above n ws [] a e = nil_cons (sym e)
not_above n ws (h ∷ t) a e = omega (arith, a, (cons_same (0x52000000 + n) h ws t e).0)

-- one group, and what stands behind it
group_same : (n : ℕ) (b d : Bool) (ws vs rest more : List ℕ) → length ws ≡ length vs → Above n rest → Above n more → group_words b n ws ++ rest ≡ group_words d n vs ++ more → (b ≡ d) × (b ≡ true → ws ≡ vs) × (rest ≡ more)
group_same n true true ws vs rest more l a c e = let h = append_same ws vs rest more l (cons_same (0x52000000 + n) (0x52000000 + n) (ws ++ rest) (vs ++ more) e).1 in (refl, λ t. h.0, h.1)
group_same n true false ws vs rest more l a c e = absurd (not_above n (ws ++ rest) more c e)
group_same n false true ws vs rest more l a c e = absurd (not_above n (vs ++ more) rest a (sym e))
group_same n false false ws vs rest more l a c e = (refl, λ t. absurd (true≢false (sym t)), e)

last_same : (n : ℕ) (b d : Bool) (ws vs : List ℕ) → group_words b n ws ≡ group_words d n vs → (b ≡ d) × (b ≡ true → ws ≡ vs)
last_same n true true ws vs e = (refl, λ t. (cons_same (0x52000000 + n) (0x52000000 + n) ws vs e).1)
last_same n true false ws vs e = absurd (nil_cons (sym e))
last_same n false true ws vs e = absurd (nil_cons e)
last_same n false false ws vs e = (refl, λ t. absurd (true≢false (sym t)))

head_same : (x y : ℕ) (xs ys : List ℕ) → x ∷ xs ≡ y ∷ ys → x ≡ y
head_same x y xs ys e = (cons_same x y xs ys e).0

format_same : (a b : TexFormat) → format_word a ≡ format_word b → a ≡ b
format_same L8 L8 e = refl
format_same Rgb565 Rgb565 e = refl
format_same L8 Rgb565 e = absurd (omega (arith, e))
format_same Rgb565 L8 e = absurd (omega (arith, e))

format_some : (a : TexFormat) → 0 < format_word a
format_some L8 = omega arith
format_some Rgb565 = omega arith

bound_length : (a b : Option BoundTexture) → length (bound_words a) ≡ length (bound_words b)
bound_length None None = refl
bound_length None (Some b) = refl
bound_length (Some a) None = refl
bound_length (Some a) (Some b) = refl

bound_one : (a b : Option BoundTexture) → IsBoundInRange a → IsBoundInRange b → bound_words a ≡ bound_words b → a ≡ b
bound_one None None r t e = refl
bound_one None (Some b) r t e = absurd (omega (arith, format_some b.shape.format, head_same 0 (format_word b.shape.format) _ _ e))
bound_one (Some a) None r t e = absurd (omega (arith, format_some a.shape.format, head_same (format_word a.shape.format) 0 _ _ e))
bound_one (Some a) (Some b) r t e = λ k. Some (record { shape = record { format = format k; width = width k; height = height k }; base = base k })
  where
    h : (format_word a.shape.format ≡ format_word b.shape.format) × (a.base ∷ halves a.shape.width a.shape.height ∷ [] ≡ b.base ∷ halves b.shape.width b.shape.height ∷ [])
    h = cons_same _ _ _ _ e

    i : (a.base ≡ b.base) × (halves a.shape.width a.shape.height ∷ [] ≡ halves b.shape.width b.shape.height ∷ [])
    i = cons_same _ _ _ _ h.1

    sides : halves a.shape.width a.shape.height ≡ halves b.shape.width b.shape.height
    sides = head_same _ _ _ _ i.1

    format : a.shape.format ≡ b.shape.format
    format = format_same a.shape.format b.shape.format h.0

    base : a.base ≡ b.base
    base = i.0

    width : a.shape.width ≡ b.shape.width
    width = omega (arith, sides, r.0.1, t.0.1)

    height : a.shape.height ≡ b.shape.height
    height = omega (arith, sides, r.0.1, t.0.1)

scissor_one : (a b : Option ClipRect) → IsScissorInRange a → IsScissorInRange b → scissor_words a ≡ scissor_words b → a ≡ b
scissor_one None None r t e = refl
scissor_one None (Some b) r t e = absurd (omega (arith, head_same 0 1 _ _ e))
scissor_one (Some a) None r t e = absurd (omega (arith, head_same 1 0 _ _ e))
scissor_one (Some a) (Some b) r t e = λ k. Some (record { x1 = x1 k; y1 = y1 k; x2 = x2 k; y2 = y2 k })
  where
    h : (halves a.x1 a.y1 ≡ halves b.x1 b.y1) × (halves a.x2 a.y2 ∷ [] ≡ halves b.x2 b.y2 ∷ [])
    h = cons_same _ _ _ _ (cons_same _ _ _ _ e).1

    second : halves a.x2 a.y2 ≡ halves b.x2 b.y2
    second = head_same _ _ _ _ h.1

    x1 : a.x1 ≡ b.x1
    x1 = omega (arith, h.0, r.left, t.left)

    y1 : a.y1 ≡ b.y1
    y1 = omega (arith, h.0, r.left, t.left)

    x2 : a.x2 ≡ b.x2
    x2 = omega (arith, second, r.right, t.right)

    y2 : a.y2 ≡ b.y2
    y2 = omega (arith, second, r.right, t.right)

choose_same : {A : Type 0} (b d : Bool) (x y o : A) → b ≡ d → (b ≡ true → x ≡ y) → (if b then x else o) ≡ (if d then y else o)
choose_same true true x y o e h = h refl
choose_same true false x y o e h = absurd (true≢false e)
choose_same false true x y o e h = absurd (true≢false (sym e))
choose_same false false x y o e h = refl

-- words that spell two things leave the same registers
pub spelled_once : (words : List ℕ) (a b : Spelled words) (old : Registers) → loaded a.groups a.registers old ≡ loaded b.groups b.registers old
spelled_once words a b old = λ k. record {
  shade = choose_same a.groups.shade b.groups.shade a.registers.shade b.registers.shade old.shade g0.0 (λ t. sym (shade_is _) ∙ ap shade_of (head_same _ _ _ _ (g0.1 t)) ∙ shade_is _) k;
  depth_func = choose_same a.groups.depth b.groups.depth a.registers.depth_func b.registers.depth_func old.depth_func g1.0 (λ t. sym (depth_is _) ∙ ap depth_of (head_same _ _ _ _ (g1.1 t)) ∙ depth_is _) k;
  depth_write = choose_same a.groups.depth b.groups.depth a.registers.depth_write b.registers.depth_write old.depth_write g1.0 (λ t. sym (flag_is _) ∙ ap flag_of (head_same _ _ _ _ (cons_same _ _ _ _ (g1.1 t)).1) ∙ flag_is _) k;
  blend = choose_same a.groups.blend b.groups.blend a.registers.blend b.registers.blend old.blend g2.0 (λ t. sym (blend_is _) ∙ ap blend_of (head_same _ _ _ _ (g2.1 t)) ∙ blend_is _) k;
  tex_mode = choose_same a.groups.mode b.groups.mode a.registers.tex_mode b.registers.tex_mode old.tex_mode g3.0 (λ t. sym (mode_is _) ∙ ap mode_of (head_same _ _ _ _ (g3.1 t)) ∙ mode_is _) k;
  wrap = choose_same a.groups.wrap b.groups.wrap a.registers.wrap b.registers.wrap old.wrap g4.0 (λ t. sym (wrap_is _) ∙ ap wrap_of (head_same _ _ _ _ (g4.1 t)) ∙ wrap_is _) k;
  bound = choose_same a.groups.bound b.groups.bound a.registers.bound b.registers.bound old.bound g5.0 (λ t. bound_one a.registers.bound b.registers.bound a.bound b.bound (g5.1 t)) k;
  scissor = choose_same a.groups.scissor b.groups.scissor a.registers.scissor b.registers.scissor old.scissor g6.0 (λ t. scissor_one a.registers.scissor b.registers.scissor a.scissor b.scissor (g6.1 t)) k;
}
  where
    r6 : Groups → Registers → List ℕ
    r6 g r = group_words g.scissor 6 (scissor_words r.scissor)

    r5 : Groups → Registers → List ℕ
    r5 g r = group_words g.bound 5 (bound_words r.bound) ++ r6 g r

    r4 : Groups → Registers → List ℕ
    r4 g r = group_words g.wrap 4 (wrap_word r.wrap ∷ []) ++ r5 g r

    r3 : Groups → Registers → List ℕ
    r3 g r = group_words g.mode 3 (mode_word r.tex_mode ∷ []) ++ r4 g r

    r2 : Groups → Registers → List ℕ
    r2 g r = group_words g.blend 2 (blend_word r.blend ∷ []) ++ r3 g r

    r1 : Groups → Registers → List ℕ
    r1 g r = group_words g.depth 1 (depth_word r.depth_func ∷ flag_word r.depth_write ∷ []) ++ r2 g r

    a5 : (g : Groups) (r : Registers) → Above 5 (r6 g r)
    a5 g r = above_last 5 6 g.scissor (scissor_words r.scissor) (omega arith)

    a4 : (g : Groups) (r : Registers) → Above 4 (r5 g r)
    a4 g r = above_group 4 5 g.bound (bound_words r.bound) (r6 g r) (omega arith) (a5 g r)

    a3 : (g : Groups) (r : Registers) → Above 3 (r4 g r)
    a3 g r = above_group 3 4 g.wrap (wrap_word r.wrap ∷ []) (r5 g r) (omega arith) (a4 g r)

    a2 : (g : Groups) (r : Registers) → Above 2 (r3 g r)
    a2 g r = above_group 2 3 g.mode (mode_word r.tex_mode ∷ []) (r4 g r) (omega arith) (a3 g r)

    a1 : (g : Groups) (r : Registers) → Above 1 (r2 g r)
    a1 g r = above_group 1 2 g.blend (blend_word r.blend ∷ []) (r3 g r) (omega arith) (a2 g r)

    a0 : (g : Groups) (r : Registers) → Above 0 (r1 g r)
    a0 g r = above_group 0 1 g.depth (depth_word r.depth_func ∷ flag_word r.depth_write ∷ []) (r2 g r) (omega arith) (a1 g r)

    x : Groups
    x = a.groups

    y : Groups
    y = b.groups

    p : Registers
    p = a.registers

    q : Registers
    q = b.registers

    g0 : (x.shade ≡ y.shade) × (x.shade ≡ true → shade_word p.shade ∷ [] ≡ shade_word q.shade ∷ []) × (r1 x p ≡ r1 y q)
    g0 = group_same 0 x.shade y.shade _ _ (r1 x p) (r1 y q) refl (a0 x p) (a0 y q) (sym a.spells ∙ b.spells)

    g1 : (x.depth ≡ y.depth) × (x.depth ≡ true → depth_word p.depth_func ∷ flag_word p.depth_write ∷ [] ≡ depth_word q.depth_func ∷ flag_word q.depth_write ∷ []) × (r2 x p ≡ r2 y q)
    g1 = group_same 1 x.depth y.depth _ _ (r2 x p) (r2 y q) refl (a1 x p) (a1 y q) g0.2

    g2 : (x.blend ≡ y.blend) × (x.blend ≡ true → blend_word p.blend ∷ [] ≡ blend_word q.blend ∷ []) × (r3 x p ≡ r3 y q)
    g2 = group_same 2 x.blend y.blend _ _ (r3 x p) (r3 y q) refl (a2 x p) (a2 y q) g1.2

    g3 : (x.mode ≡ y.mode) × (x.mode ≡ true → mode_word p.tex_mode ∷ [] ≡ mode_word q.tex_mode ∷ []) × (r4 x p ≡ r4 y q)
    g3 = group_same 3 x.mode y.mode _ _ (r4 x p) (r4 y q) refl (a3 x p) (a3 y q) g2.2

    g4 : (x.wrap ≡ y.wrap) × (x.wrap ≡ true → wrap_word p.wrap ∷ [] ≡ wrap_word q.wrap ∷ []) × (r5 x p ≡ r5 y q)
    g4 = group_same 4 x.wrap y.wrap _ _ (r5 x p) (r5 y q) refl (a4 x p) (a4 y q) g3.2

    g5 : (x.bound ≡ y.bound) × (x.bound ≡ true → bound_words p.bound ≡ bound_words q.bound) × (r6 x p ≡ r6 y q)
    g5 = group_same 5 x.bound y.bound _ _ (r6 x p) (r6 y q) (bound_length p.bound q.bound) (a5 x p) (a5 y q) g4.2

    g6 : (x.scissor ≡ y.scissor) × (x.scissor ≡ true → scissor_words p.scissor ≡ scissor_words q.scissor)
    g6 = last_same 6 x.scissor y.scissor _ _ g5.2
