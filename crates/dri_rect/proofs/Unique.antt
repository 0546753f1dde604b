-- Two canonical lists with the same pixels are the same list.
use Rattle.std.proofs.Common.{◌≡◌, List, [], ◌∷◌, Bool, true, false, arith, refl, sym, ◌∙◌, inl, inr, ap, subst}
use Rattle.std.specs.Prelude.{ℤ, pos, ◌<ℤ◌, ◌≤ℤ◌, ◌-ℤ◌, ◌⊎◌, ◌&&◌}
use Rattle.std.specs.List.{AllByRecursion}
use Rattle.std.proofs.lemmas.Int.{ints, by_lt_z}
use Rattle.std.proofs.lemmas.Bool.{true≢false}
use Rattle.dri_base.specs.declared.shape.Rect.{Rect}
use Rattle.dri_rect.specs.Pixels.{In, in_columns, in_lines, inside, IsProper, Follows, IsBanded, IsCanonical, SamePixels}

-- the rectangle has the pixel
pub record Has (r : Rect) (x y : ℤ) : Type 0 where
  pub left : r.x1 ≤ℤ x
  pub right : x <ℤ r.x2
  pub top : r.y1 ≤ℤ y
  pub bottom : y <ℤ r.y2

pub tested : (r : Rect) (x y : ℤ) → (in_lines r y && in_columns r x) ≡ true → Has r x y
tested r x y e = record { left = grind (arith, ints); right = grind (arith, ints); top = grind (arith, ints); bottom = grind (arith, ints) }

pub tests : (r : Rect) (x y : ℤ) → Has r x y → (in_lines r y && in_columns r x) ≡ true
tests r x y h = grind (arith, ints)

pub find : (rs : List Rect) (x y : ℤ) → inside rs x y ≡ true → (r : Rect) × In r rs × Has r x y
find [] x y e = absurd (true≢false (sym e))
find (r ∷ rs) x y e = by (in_lines r y && in_columns r x) refl (find rs x y)
  where
    by : (b : Bool) → (in_lines r y && in_columns r x) ≡ b → (inside rs x y ≡ true → (s : Rect) × In s rs × Has s x y) → (s : Rect) × In s (r ∷ rs) × Has s x y
    by true p more = (r, inl refl, tested r x y p)
    by false p more = let q = more (rw p at e) in (q.0, inr q.1, q.2)

pub found : (rs : List Rect) (r : Rect) (x y : ℤ) → In r rs → Has r x y → inside rs x y ≡ true
found [] r x y i h = absurd i
found (s ∷ ss) r x y (inl e) h = rw (tests s x y (subst (λ q. Has q x y) e h)) refl
found (s ∷ ss) r x y (inr i) h = grind (arith, found ss r x y i h)

pub proper : (rs : List Rect) (r : Rect) → IsBanded rs → In r rs → IsProper r
proper [] r b i = absurd i
proper (s ∷ ss) r b (inl e) = subst IsProper (sym e) b.0
proper (s ∷ ss) r b (inr i) = proper ss r b.2 i

pub each : (P : Rect → Type 0) (rs : List Rect) (r : Rect) → AllByRecursion P rs → In r rs → P r
each P [] r a i = absurd i
each P (s ∷ ss) r a (inl e) = subst P (sym e) a.0
each P (s ∷ ss) r a (inr i) = each P ss r a.1 i

pub pair : (rs : List Rect) (r s : Rect) → IsBanded rs → In r rs → In s rs → (r ≡ s) ⊎ (Follows r s ⊎ Follows s r)
pair [] r s b i j = absurd i
pair (t ∷ ts) r s b (inl e) (inl f) = inl (e ∙ sym f)
pair (t ∷ ts) r s b (inl e) (inr j) = inr (inl (subst (λ q. Follows q s) (sym e) (each (Follows t) ts s b.1 j)))
pair (t ∷ ts) r s b (inr i) (inl f) = inr (inr (subst (λ q. Follows q r) (sym f) (each (Follows t) ts r b.1 i)))
pair (t ∷ ts) r s b (inr i) (inr j) = pair ts r s b.2 i j

-- two rectangles of a list on one line are in one band
pub one_band : (rs : List Rect) (r s : Rect) (y : ℤ) → IsBanded rs → In r rs → In s rs → r.y1 ≤ℤ y → y <ℤ r.y2 → s.y1 ≤ℤ y → y <ℤ s.y2
    → (s.y1 ≡ r.y1) × (s.y2 ≡ r.y2) × ((r ≡ s) ⊎ ((r.x2 <ℤ s.x1) ⊎ (s.x2 <ℤ r.x1)))
one_band rs r s y b i j rt rb st sb = by (pair rs r s b i j)
  where
    by : (r ≡ s) ⊎ (Follows r s ⊎ Follows s r) → (s.y1 ≡ r.y1) × (s.y2 ≡ r.y2) × ((r ≡ s) ⊎ ((r.x2 <ℤ s.x1) ⊎ (s.x2 <ℤ r.x1)))
    by (inl e) = (ap (λ (q : Rect). q.y1) (sym e), ap (λ (q : Rect). q.y2) (sym e), inl e)
    by (inr (inl (inl f))) = (f.0, f.1, inr (inl f.2))
    by (inr (inl (inr f))) = absurd (omega (arith, ints))
    by (inr (inr (inl f))) = (sym f.0, sym f.1, inr (inr f.2))
    by (inr (inr (inr f))) = absurd (omega (arith, ints))

pub record Maximal (S : ℤ → ℤ → Bool) (r : Rect) : Type 0 where
  pub size : IsProper r
  pub within : (x y : ℤ) → Has r x y → S x y ≡ true
  pub left : (y : ℤ) → r.y1 ≤ℤ y → y <ℤ r.y2 → S (r.x1 -ℤ pos 1) y ≡ false
  pub right : (y : ℤ) → r.y1 ≤ℤ y → y <ℤ r.y2 → S r.x2 y ≡ false
  pub same : (x y : ℤ) → r.y1 ≤ℤ y → y <ℤ r.y2 → S x y ≡ S x r.y1
  pub above : ((x : ℤ) → S x (r.y1 -ℤ pos 1) ≡ S x r.y1) → ⊥
  pub below : ((x : ℤ) → S x r.y2 ≡ S x r.y1) → ⊥

-- a test that isn't true is false
pub not_true : (b : Bool) → (b ≡ true → ⊥) → b ≡ false
not_true true h = absurd (h refl)
not_true false h = refl

both_ways : (a b : Bool) → (a ≡ true → b ≡ true) → (b ≡ true → a ≡ true) → a ≡ b
both_ways true true f g = refl
both_ways false false f g = refl
both_ways true false f g = sym (f refl)
both_ways false true f g = g refl

pub maximal : (rs : List Rect) (r : Rect) → IsCanonical rs → In r rs → Maximal (inside rs) r
maximal rs r c i = record {
  size = p;
  within = λ x y h. found rs r x y i h;
  left = λ y t b. not_true _ (λ e. at_left y t b (find rs (r.x1 -ℤ pos 1) y e));
  right = λ y t b. not_true _ (λ e. at_right y t b (find rs r.x2 y e));
  same = λ x y t b. both_ways _ _ (λ e. across x y r.y1 t b (omega (arith, ints, p.across, p.down)) (omega (arith, ints, p.across, p.down)) (find rs x y e)) (λ e. across x r.y1 y (omega (arith, ints, p.across, p.down)) (omega (arith, ints, p.across, p.down)) t b (find rs x r.y1 e));
  above = c.topped r i;
  below = λ same. under same (find rs r.x1 r.y2 (same r.x1 ∙ found rs r r.x1 r.y1 i (record { left = omega (arith, ints, p.across, p.down); right = omega (arith, ints, p.across, p.down); top = omega (arith, ints, p.across, p.down); bottom = omega (arith, ints, p.across, p.down) })));
}
  where
    p : IsProper r
    p = proper rs r c.banded i

    at_left : (y : ℤ) → r.y1 ≤ℤ y → y <ℤ r.y2 → (s : Rect) × In s rs × Has s (r.x1 -ℤ pos 1) y → ⊥
    at_left y t b f = go f.2 (one_band rs r f.0 y c.banded i f.1 t b f.2.top f.2.bottom).2
      where
        go : Has f.0 (r.x1 -ℤ pos 1) y → ((r ≡ f.0) ⊎ ((r.x2 <ℤ f.0.x1) ⊎ (f.0.x2 <ℤ r.x1))) → ⊥
        go h (inl e) = let k : f.0.x1 ≡ r.x1 = ap (λ (q : Rect). q.x1) (sym e) in omega (arith, ints, p.across, p.down)
        go h (inr (inl l)) = omega (arith, ints, p.across, p.down)
        go h (inr (inr l)) = omega (arith, ints, p.across, p.down)

    at_right : (y : ℤ) → r.y1 ≤ℤ y → y <ℤ r.y2 → (s : Rect) × In s rs × Has s r.x2 y → ⊥
    at_right y t b f = go f.2 (one_band rs r f.0 y c.banded i f.1 t b f.2.top f.2.bottom).2
      where
        go : Has f.0 r.x2 y → ((r ≡ f.0) ⊎ ((r.x2 <ℤ f.0.x1) ⊎ (f.0.x2 <ℤ r.x1))) → ⊥
        go h (inl e) = let k : f.0.x2 ≡ r.x2 = ap (λ (q : Rect). q.x2) (sym e) in omega (arith, ints, p.across, p.down)
        go h (inr (inl l)) = omega (arith, ints, p.across, p.down)
        go h (inr (inr l)) = omega (arith, ints, p.across, p.down)

    across : (x y z : ℤ) → r.y1 ≤ℤ y → y <ℤ r.y2 → r.y1 ≤ℤ z → z <ℤ r.y2 → (s : Rect) × In s rs × Has s x y → inside rs x z ≡ true
    across x y z t b u d f = go f.2 (one_band rs r f.0 y c.banded i f.1 t b f.2.top f.2.bottom).0 (one_band rs r f.0 y c.banded i f.1 t b f.2.top f.2.bottom).1
      where
        go : Has f.0 x y → f.0.y1 ≡ r.y1 → f.0.y2 ≡ r.y2 → inside rs x z ≡ true
        go h e1 e2 = found rs f.0 x z f.1 (record { left = h.left; right = h.right; top = omega (arith, ints, p.across, p.down); bottom = omega (arith, ints, p.across, p.down) })

    under : ((x : ℤ) → inside rs x r.y2 ≡ inside rs x r.y1) → (s : Rect) × In s rs × Has s r.x1 r.y2 → ⊥
    under same f = go f.2 (pair rs r f.0 c.banded i f.1)
      where
        topped : f.0.y1 ≡ r.y2 → ⊥
        topped e = c.topped f.0 f.1 (λ x. line x)
          where
            last_line : (x : ℤ) → inside rs x (r.y2 -ℤ pos 1) ≡ inside rs x r.y1
            last_line x = both_ways _ _ (λ q. across x (r.y2 -ℤ pos 1) r.y1 (omega (arith, ints, p.across, p.down)) (omega (arith, ints, p.across, p.down)) (omega (arith, ints, p.across, p.down)) (omega (arith, ints, p.across, p.down)) (find rs x (r.y2 -ℤ pos 1) q)) (λ q. across x r.y1 (r.y2 -ℤ pos 1) (omega (arith, ints, p.across, p.down)) (omega (arith, ints, p.across, p.down)) (omega (arith, ints, p.across, p.down)) (omega (arith, ints, p.across, p.down)) (find rs x r.y1 q))

            line : (x : ℤ) → inside rs x (f.0.y1 -ℤ pos 1) ≡ inside rs x f.0.y1
            line x = subst (λ z. inside rs x (z -ℤ pos 1) ≡ inside rs x z) (sym e) (last_line x ∙ sym (same x))

        go : Has f.0 r.x1 r.y2 → ((r ≡ f.0) ⊎ (Follows r f.0 ⊎ Follows f.0 r)) → ⊥
        go h (inl e) = let k : f.0.y2 ≡ r.y2 = ap (λ (q : Rect). q.y2) (sym e) in omega (arith, ints, p.across, p.down)
        go h (inr (inl (inl l))) = omega (arith, ints, p.across, p.down)
        go h (inr (inl (inr l))) = topped (omega (arith, ints, p.across, p.down))
        go h (inr (inr (inl l))) = omega (arith, ints, p.across, p.down)
        go h (inr (inr (inr l))) = omega (arith, ints, p.across, p.down)

-- two maximal rectangles that share a pixel are one
pub one : (S : ℤ → ℤ → Bool) (r s : Rect) (x y : ℤ) → Maximal S r → Maximal S s → Has r x y → Has s x y → r ≡ s
one S r s x y m n h k = equal (le_x1 r s m n h k) (le_x1 s r n m k h) (le_x2 r s m n h k) (le_x2 s r n m k h) (le_y1 r s m n h k) (le_y1 s r n m k h) (le_y2 r s m n h k) (le_y2 s r n m k h)
  where
    clash : (b : Bool) → b ≡ true → b ≡ false → ⊥
    clash b p q = true≢false (sym p ∙ q)

    or_less : (a b : ℤ) → (a <ℤ b → ⊥) → b ≤ℤ a
    or_less a b h = by_lt_z a b (λ l. absurd (h l)) (λ l. l)

    le_x1 : (r s : Rect) → Maximal S r → Maximal S s → Has r x y → Has s x y → s.x1 ≤ℤ r.x1
    le_x1 r s m n h k = or_less _ _ (λ l. clash (S (s.x1 -ℤ pos 1) y) (m.within _ _ (record { left = omega (arith, ints); right = omega (arith, ints); top = h.top; bottom = h.bottom })) (n.left y k.top k.bottom))

    le_x2 : (r s : Rect) → Maximal S r → Maximal S s → Has r x y → Has s x y → r.x2 ≤ℤ s.x2
    le_x2 r s m n h k = or_less _ _ (λ l. clash (S s.x2 y) (m.within _ _ (record { left = omega (arith, ints); right = omega (arith, ints); top = h.top; bottom = h.bottom })) (n.right y k.top k.bottom))

    le_y1 : (r s : Rect) → Maximal S r → Maximal S s → Has r x y → Has s x y → s.y1 ≤ℤ r.y1
    le_y1 r s m n h k = or_less _ _ (λ l. n.above (λ x. m.same x (s.y1 -ℤ pos 1) (omega (arith, ints)) (omega (arith, ints)) ∙ sym (m.same x s.y1 (omega (arith, ints)) (omega (arith, ints)))))

    le_y2 : (r s : Rect) → Maximal S r → Maximal S s → Has r x y → Has s x y → r.y2 ≤ℤ s.y2
    le_y2 r s m n h k = or_less _ _ (λ l. n.below (λ x. m.same x s.y2 (omega (arith, ints)) (omega (arith, ints)) ∙ (sym (m.same x y h.top h.bottom) ∙ n.same x y k.top k.bottom)))

    equal : s.x1 ≤ℤ r.x1 → r.x1 ≤ℤ s.x1 → r.x2 ≤ℤ s.x2 → s.x2 ≤ℤ r.x2 → s.y1 ≤ℤ r.y1 → r.y1 ≤ℤ s.y1 → r.y2 ≤ℤ s.y2 → s.y2 ≤ℤ r.y2 → r ≡ s
    equal a b c d e f g h =
        let p : r.x1 ≡ s.x1 = omega (arith, ints) in
        let q : r.x2 ≡ s.x2 = omega (arith, ints) in
        let t : r.y1 ≡ s.y1 = omega (arith, ints) in
        let u : r.y2 ≡ s.y2 = omega (arith, ints) in
        λ i. record { x1 = p i; y1 = t i; x2 = q i; y2 = u i }

-- nothing stands both before and behind a rectangle
pub ordered : (r s : Rect) → IsProper r → IsProper s → Follows r s → Follows s r → ⊥
ordered r s p q (inl f) (inl g) = omega (arith, ints)
ordered r s p q (inl f) (inr g) = omega (arith, ints)
ordered r s p q (inr f) (inl g) = omega (arith, ints)
ordered r s p q (inr f) (inr g) = omega (arith, ints)

pub same_lists : (rs ts : List Rect) → IsBanded rs → IsBanded ts → ((r : Rect) → In r rs → In r ts) → ((r : Rect) → In r ts → In r rs) → rs ≡ ts
same_lists [] [] b c f g = refl
same_lists [] (t ∷ ts) b c f g = absurd (g t (inl refl))
same_lists (r ∷ rs) [] b c f g = absurd (f r (inl refl))
same_lists (r ∷ rs) (t ∷ ts) b c f g = λ i. head i ∷ tail (same_lists rs ts b.2 c.2) i
  where
    heads : In r (t ∷ ts) → In t (r ∷ rs) → r ≡ t
    heads (inl e) j = e
    heads (inr i) (inl e) = sym e
    heads (inr i) (inr j) = absurd (ordered r t b.0 c.0 (each (Follows r) rs t b.1 j) (each (Follows t) ts r c.1 i))

    head : r ≡ t
    head = heads (f r (inl refl)) (g t (inl refl))

    to : (q : Rect) → In q rs → In q (t ∷ ts) → In q ts
    to q j (inl e) = absurd (ordered r r b.0 b.0 (subst (Follows r) (e ∙ sym head) (each (Follows r) rs q b.1 j)) (subst (Follows r) (e ∙ sym head) (each (Follows r) rs q b.1 j)))
    to q j (inr i) = i

    back : (q : Rect) → In q ts → In q (r ∷ rs) → In q rs
    back q j (inl e) = absurd (ordered t t c.0 c.0 (subst (Follows t) (e ∙ head) (each (Follows t) ts q c.1 j)) (subst (Follows t) (e ∙ head) (each (Follows t) ts q c.1 j)))
    back q j (inr i) = i

    tail : (((q : Rect) → In q rs → In q ts) → ((q : Rect) → In q ts → In q rs) → rs ≡ ts) → rs ≡ ts
    tail more = more (λ q j. to q j (f q (inr j))) (λ q j. back q j (g q (inr j)))

pub unique : (rs ts : List Rect) → IsCanonical rs → IsCanonical ts → SamePixels rs ts → rs ≡ ts
unique rs ts c d same = same_lists rs ts c.banded d.banded (λ r i. goes rs ts c d same r i) (λ r i. goes ts rs d c (λ x y. sym (same x y)) r i)
  where
    goes : (rs ts : List Rect) → IsCanonical rs → IsCanonical ts → SamePixels rs ts → (r : Rect) → In r rs → In r ts
    goes rs ts c d same r i = by (find ts r.x1 r.y1 (sym (same r.x1 r.y1) ∙ found rs r r.x1 r.y1 i first_pixel))
      where
        size : IsProper r
        size = proper rs r c.banded i

        first_pixel : Has r r.x1 r.y1
        first_pixel = record { left = omega (arith, ints, size.across, size.down); right = omega (arith, ints, size.across, size.down); top = omega (arith, ints, size.across, size.down); bottom = omega (arith, ints, size.across, size.down) }

        moved : (s : Rect) → Maximal (inside ts) s → Maximal (inside rs) s
        moved s m = record {
          size = m.size;
          within = λ x y h. same x y ∙ m.within x y h;
          left = λ y t b. same _ y ∙ m.left y t b;
          right = λ y t b. same _ y ∙ m.right y t b;
          same = λ x y t b. same x y ∙ (m.same x y t b ∙ sym (same x _));
          above = λ e. m.above (λ x. sym (same x _) ∙ (e x ∙ same x _));
          below = λ e. m.below (λ x. sym (same x _) ∙ (e x ∙ same x _));
        }

        by : (s : Rect) × In s ts × Has s r.x1 r.y1 → In r ts
        by f = subst (λ q. In q ts) (sym (one (inside rs) r f.0 r.x1 r.y1 (maximal rs r c i) (moved f.0 (maximal ts f.0 d f.1)) first_pixel f.2)) f.1
