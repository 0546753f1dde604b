-- Rows that stand last in one list, between two lines.
use Rattle.std.proofs.Common.{◌≡◌, ℕ, zero, suc, ◌+◌, ◌-◌, ◌<◌, ◌≤◌, length, get_or, take, drop, set, List, [], ◌∷◌, ◌++◌, arith, refl, sym, ◌∙◌, ap, append_assoc, append-nil}
use Rattle.std.specs.Prelude.{ℤ}
use Rattle.std.proofs.lemmas.List.{take-append-drop, set_at, length-set}
use Rattle.dri_base.specs.declared.shape.Rect.{Rect}
use Rattle.dri_rect.specs.Walk.{rectangle, lowered, Lowering}

pub length_append : (xs ys : List Rect) → length (xs ++ ys) ≡ length xs + length ys
length_append [] ys = omega arith
length_append (x ∷ xs) ys = omega (arith, length_append xs ys)

pub take_front : (xs ys : List Rect) (n : ℕ) → length xs ≡ n → take n (xs ++ ys) ≡ xs
take_front [] ys zero e = refl
take_front [] ys (suc n) e = absurd (omega (arith, e))
take_front (x ∷ xs) ys zero e = absurd (omega (arith, e))
take_front (x ∷ xs) ys (suc n) e = ap (λ k. x ∷ k) (take_front xs ys n (omega (arith, e)))

pub drop_front : (xs ys : List Rect) (n : ℕ) → length xs ≡ n → drop n (xs ++ ys) ≡ ys
drop_front [] ys zero e = refl
drop_front [] ys (suc n) e = absurd (omega (arith, e))
drop_front (x ∷ xs) ys zero e = absurd (omega (arith, e))
drop_front (x ∷ xs) ys (suc n) e = drop_front xs ys n (omega (arith, e))

length_take : (xs : List Rect) (n : ℕ) → n ≤ length xs → length (take n xs) ≡ n
length_take xs zero l = refl
length_take [] (suc n) l = absurd (omega (arith, l))
length_take (x ∷ xs) (suc n) l = ap suc (length_take xs n (omega (arith, l)))

got : (xs : List Rect) (r : Rect) (ys : List Rect) (n : ℕ) (d : Rect) → length xs ≡ n → get_or (xs ++ r ∷ ys) n d ≡ r
got [] r ys zero d e = refl
got [] r ys (suc n) d e = absurd (omega (arith, e))
got (x ∷ xs) r ys zero d e = absurd (omega (arith, e))
got (x ∷ xs) r ys (suc n) d e = got xs r ys n d (omega (arith, e))

length_lowered : (b : ℤ) (rs : List Rect) → length (lowered b rs) ≡ length rs
length_lowered b [] = refl
length_lowered b (r ∷ rs) = ap suc (length_lowered b rs)

lowered_append : (b : ℤ) (rs ss : List Rect) → lowered b (rs ++ ss) ≡ lowered b rs ++ lowered b ss
lowered_append b [] ss = refl
lowered_append b (r ∷ rs) ss = ap (λ k. rectangle r.x1 r.y1 r.x2 b ∷ k) (lowered_append b rs ss)

pub lower_start : (old : List Rect) (start : ℕ) (b : ℤ) → start ≤ length old → Lowering old old start start b
lower_start old start b l = record {
  prefix = take start old;
  done = [];
  rest = drop start old;
  whole = sym (take-append-drop start old);
  items = rw (append-nil (take start old)) (sym (take-append-drop start old));
  begins = length_take old start l;
  place = omega arith;
}

pub lower_smaller : (now : List Rect) (i : ℕ) (r : Rect) → i < length now → length (set now i r) - (i + 1) < length now - i
lower_smaller now i r l = let e : length (set now i r) ≡ length now = length-set now i r in rw e (omega (arith, l))

pub lower_step : (old now : List Rect) (start i : ℕ) (b : ℤ) (r : Rect) → Lowering old now start i b → i < length now → r ≡ get_or now i r
    → Lowering old (set now i (rectangle r.x1 r.y1 r.x2 b)) start (i + 1) b
lower_step old now start i b r w l e = by w.rest w.whole w.items
  where
    place : length (w.prefix ++ lowered b w.done) ≡ i
    place = length_append w.prefix (lowered b w.done) ∙ rw (length_lowered b w.done) (omega (arith, w.begins, w.place))

    by : (rest : List Rect) → old ≡ w.prefix ++ (w.done ++ rest) → now ≡ (w.prefix ++ lowered b w.done) ++ rest → Lowering old (set now i (rectangle r.x1 r.y1 r.x2 b)) start (i + 1) b
    by [] whole items = absurd (omega (arith, l, ap length items, ap length (append-nil (w.prefix ++ lowered b w.done)), place))
    by (s ∷ ss) whole items = record {
      prefix = w.prefix;
      done = w.done ++ (s ∷ []);
      rest = ss;
      whole = rw (append_assoc) whole;
      items = rw (items) (set_at (w.prefix ++ lowered b w.done) s ss (rectangle r.x1 r.y1 r.x2 b) i place ∙ rw (lowered_append b w.done (s ∷ []), same) (sym moved));
      begins = w.begins;
      place = rw (length_append w.done (s ∷ [])) (omega (arith, w.place));
    }
      where
        same : r ≡ s
        same = e ∙ rw items (got (w.prefix ++ lowered b w.done) s ss i r place)

        moved : (w.prefix ++ (lowered b w.done ++ (rectangle s.x1 s.y1 s.x2 b ∷ []))) ++ ss ≡ (w.prefix ++ lowered b w.done) ++ (rectangle s.x1 s.y1 s.x2 b ∷ ss)
        moved = rw (sym (append_assoc w.prefix (lowered b w.done) (rectangle s.x1 s.y1 s.x2 b ∷ []))) (append_assoc (w.prefix ++ lowered b w.done) (rectangle s.x1 s.y1 s.x2 b ∷ []) ss)

pub lower_end : (old now : List Rect) (start i : ℕ) (b : ℤ) → Lowering old now start i b → length now ≤ i → now ≡ take start old ++ lowered b (drop start old)
lower_end old now start i b w l = by w.rest w.whole w.items
  where
    place : length (w.prefix ++ lowered b w.done) ≡ i
    place = length_append w.prefix (lowered b w.done) ∙ rw (length_lowered b w.done) (omega (arith, w.begins, w.place))

    by : (rest : List Rect) → old ≡ w.prefix ++ (w.done ++ rest) → now ≡ (w.prefix ++ lowered b w.done) ++ rest → now ≡ take start old ++ lowered b (drop start old)
    by (s ∷ ss) whole items = absurd (omega (arith, l, ap length items, length_append (w.prefix ++ lowered b w.done) (s ∷ ss), place))
    by [] whole items = items ∙ rw (append-nil (w.prefix ++ lowered b w.done), whole, append-nil w.done, take_front w.prefix w.done start w.begins, drop_front w.prefix w.done start w.begins) refl
