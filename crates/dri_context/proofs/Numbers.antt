-- The values of words, and the words of values.
use Rattle.std.proofs.Common.{◌≡◌, ℕ, zero, suc, ◌/◌, ◌%◌, ◌<◌, ◌≤◌, [], ◌∷◌, true, ◌==◌, ◌&&◌, nat_le, refl, ap, ◌∙◌, arith}
use Rattle.std.proofs.lemmas.Bool.{leb-true, eqb-true, and_parts, and_from, le-leb}
use Rattle.dri_model.proofs.Values.{halved}
use Rattle.dri_model.specs.Groups.{shade_word, depth_word, blend_word, mode_word, wrap_word, flag_word}
use Rattle.dri_model.specs.Words.{halves, bound_words, scissor_words, IsBoundInRange, IsScissorInRange}
use Rattle.dri_context.specs.Reading.{shade_of, depth_of, blend_of, mode_of, wrap_of, bound_of, scissor_of, is_texture_side, fits_bound, fits_scissor}

pub shade_back : (w : ℕ) → w < 2 → shade_word (shade_of w) ≡ w
shade_back zero small = refl
shade_back (suc zero) small = refl
shade_back (suc (suc n)) small = absurd (omega (arith, small))

pub depth_back : (w : ℕ) → w < 8 → depth_word (depth_of w) ≡ w
depth_back zero small = refl
depth_back (suc zero) small = refl
depth_back (suc (suc zero)) small = refl
depth_back (suc (suc (suc zero))) small = refl
depth_back (suc (suc (suc (suc zero)))) small = refl
depth_back (suc (suc (suc (suc (suc zero))))) small = refl
depth_back (suc (suc (suc (suc (suc (suc zero)))))) small = refl
depth_back (suc (suc (suc (suc (suc (suc (suc zero))))))) small = refl
depth_back (suc (suc (suc (suc (suc (suc (suc (suc n)))))))) small = absurd (omega (arith, small))

pub flag_back : (w : ℕ) → w < 2 → flag_word (w == 1) ≡ w
flag_back zero small = refl
flag_back (suc zero) small = refl
flag_back (suc (suc n)) small = absurd (omega (arith, small))

pub blend_back : (w : ℕ) → w < 3 → blend_word (blend_of w) ≡ w
blend_back zero small = refl
blend_back (suc zero) small = refl
blend_back (suc (suc zero)) small = refl
blend_back (suc (suc (suc n))) small = absurd (omega (arith, small))

pub mode_back : (w : ℕ) → w < 3 → mode_word (mode_of w) ≡ w
mode_back zero small = refl
mode_back (suc zero) small = refl
mode_back (suc (suc zero)) small = refl
mode_back (suc (suc (suc n))) small = absurd (omega (arith, small))

pub wrap_back : (w : ℕ) → w < 2 → wrap_word (wrap_of w) ≡ w
wrap_back zero small = refl
wrap_back (suc zero) small = refl
wrap_back (suc (suc n)) small = absurd (omega (arith, small))

zeros : (a b : ℕ) → a ≡ 0 → b ≡ 0 → 0 ∷ 0 ∷ 0 ∷ [] ≡ 0 ∷ a ∷ b ∷ []
zeros a b p q = rw (p, q) refl

-- the bound texture of three words that fit has these words, and is in range
pub bound_back : (f b s : ℕ) → f < 3 → fits_bound 2 f b ≡ true → fits_bound 3 f s ≡ true → (bound_words (bound_of f b s) ≡ f ∷ b ∷ s ∷ []) × IsBoundInRange (bound_of f b s)
bound_back zero b s small second third = (zeros b s (eqb-true b 0 second) (eqb-true s 0 third), tt)
bound_back (suc zero) b s small second third =
    let sides = and_parts (is_texture_side (s % 65536)) (is_texture_side (s / 65536)) third in
    let width = and_parts (nat_le 1 (s % 65536)) (nat_le (s % 65536) 256) sides.0 in
    let height = and_parts (nat_le 1 (s / 65536)) (nat_le (s / 65536) 256) sides.1 in
    (ap (λ n. 1 ∷ b ∷ n ∷ []) (halved s), ((leb-true 1 (s % 65536) width.0, leb-true (s % 65536) 256 width.1), (leb-true 1 (s / 65536) height.0, leb-true (s / 65536) 256 height.1)))
bound_back (suc (suc zero)) b s small second third =
    let sides = and_parts (is_texture_side (s % 65536)) (is_texture_side (s / 65536)) third in
    let width = and_parts (nat_le 1 (s % 65536)) (nat_le (s % 65536) 256) sides.0 in
    let height = and_parts (nat_le 1 (s / 65536)) (nat_le (s / 65536) 256) sides.1 in
    (ap (λ n. 2 ∷ b ∷ n ∷ []) (halved s), ((leb-true 1 (s % 65536) width.0, leb-true (s % 65536) 256 width.1), (leb-true 1 (s / 65536) height.0, leb-true (s / 65536) 256 height.1)))
bound_back (suc (suc (suc n))) b s small second third = absurd (omega (arith, small))

pub scissor_back : (f u l : ℕ) → f < 2 → fits_scissor 2 f u ≡ true → fits_scissor 3 f l ≡ true → (scissor_words (scissor_of f u l) ≡ f ∷ u ∷ l ∷ []) × IsScissorInRange (scissor_of f u l)
scissor_back zero u l small second third = (zeros u l (eqb-true u 0 second) (eqb-true l 0 third), tt)
scissor_back (suc zero) u l small second third =
    let upper = and_parts (nat_le (u % 65536) 2048) (nat_le (u / 65536) 2048) second in
    let lower = and_parts (nat_le (l % 65536) 2048) (nat_le (l / 65536) 2048) third in (
      ap (λ n. 1 ∷ n ∷ halves (l % 65536) (l / 65536) ∷ []) (halved u) ∙ ap (λ n. 1 ∷ u ∷ n ∷ []) (halved l),
      record { left = leb-true (u % 65536) 2048 upper.0; top = leb-true (u / 65536) 2048 upper.1; right = leb-true (l % 65536) 2048 lower.0; bottom = leb-true (l / 65536) 2048 lower.1 },
    )
scissor_back (suc (suc n)) u l small second third = absurd (omega (arith, small))

-- the sides of a bound texture fit, and the corners of a scissor
pub sides_fit : (w h : ℕ) → 1 ≤ w → w ≤ 256 → 1 ≤ h → h ≤ 256 → (is_texture_side (halves w h % 65536) && is_texture_side (halves w h / 65536)) ≡ true
sides_fit w h a b c d =
    let low : halves w h % 65536 ≡ w = omega arith in
    let high : halves w h / 65536 ≡ h = omega arith in
    rw (low, high) (and_from (is_texture_side w) (is_texture_side h) (and_from (nat_le 1 w) (nat_le w 256) (le-leb 1 w a) (le-leb w 256 b)) (and_from (nat_le 1 h) (nat_le h 256) (le-leb 1 h c) (le-leb h 256 d)))

pub corner_fits : (x y : ℕ) → x ≤ 2048 → y ≤ 2048 → (nat_le (halves x y % 65536) 2048 && nat_le (halves x y / 65536) 2048) ≡ true
corner_fits x y a b =
    let low : halves x y % 65536 ≡ x = omega arith in
    let high : halves x y / 65536 ≡ y = omega arith in
    rw (low, high) (and_from (nat_le x 2048) (nat_le y 2048) (le-leb x 2048 a) (le-leb y 2048 b))
