-- What is counted after a call of the card.
use Rattle.std.proofs.Common.{◌≡◌, ◌+◌, ℕ, Bool, true, false, not, if◌then◌else◌, refl, ◌∙◌, sym, ap}
use Rattle.std.specs.Prelude.{◌&&◌, ◌||◌}
use Rattle.dri_flip.specs.Follows.{counted}
use Rattle.dri_flip.specs.Meanings.{Meaning}
use Rattle.dri_flip.specs.Owings.{Owing, flipped_where, paid_where}
use Rattle.dri_flip.specs.declared.counted.CountedCard.{CountedCard}
use Rattle.dri_flip.specs.declared.swapped.Swapped.{Swapped}
use Rattle.dri_flip.specs.declared.swapped.Swapped.TheVariants.{Copied, Flipped}

cleared : (owed touch whole : Bool) (flips copies : ℕ) →
    ◌≡◌ {A = Owing} (record { owed = owed && not touch; flips = flips; copies = if (owed && not whole) && not (owed && not touch) then copies + 1 else copies })
    (paid_where touch whole (record { owed = owed; flips = flips; copies = copies }))
cleared true true true flips copies = refl
cleared true true false flips copies = refl
cleared true false true flips copies = refl
cleared true false false flips copies = refl
cleared false true true flips copies = refl
cleared false true false flips copies = refl
cleared false false true flips copies = refl
cleared false false false flips copies = refl

drawn : (owed touch : Bool) (flips copies : ℕ) →
    ◌≡◌ {A = Owing} (record { owed = owed && not touch; flips = flips; copies = if owed && not (owed && not touch) then copies + 1 else copies })
    (paid_where touch false (record { owed = owed; flips = flips; copies = copies }))
drawn true true flips copies = refl
drawn true false flips copies = refl
drawn false true flips copies = refl
drawn false false flips copies = refl

flipped : (owed : Bool) (flips copies : ℕ) →
    ◌≡◌ {A = Owing} (record { owed = true; flips = flips + 1; copies = if owed then copies + 1 else copies })
    (flipped_where true (paid_where true false (record { owed = owed; flips = flips; copies = copies })))
flipped true flips copies = refl
flipped false flips copies = refl

-- after a clear
pub clear_counted : (old new : CountedCard) (card : Meaning) (touch whole found : Bool) → found ≡ (old.card.owed && not whole) → card.owed ≡ (old.card.owed && not touch) →
    new ≡ record { card = card; flips = old.flips; copies = if found && not card.owed then old.copies + 1 else old.copies } → counted new ≡ paid_where touch whole (counted old)
clear_counted old new card touch whole found finds owes is =
    ap counted is ∙ (λ k. record { owed = owes k; flips = old.flips; copies = if finds k && not (owes k) then old.copies + 1 else old.copies }) ∙ cleared old.card.owed touch whole old.flips old.copies

-- after a triangle, or paints
pub draw_counted : (old new : CountedCard) (card : Meaning) (touch found : Bool) → found ≡ old.card.owed → card.owed ≡ (old.card.owed && not touch) →
    new ≡ record { card = card; flips = old.flips; copies = if found && not card.owed then old.copies + 1 else old.copies } → counted new ≡ paid_where touch false (counted old)
draw_counted old new card touch found finds owes is =
    ap counted is ∙ (λ k. record { owed = owes k; flips = old.flips; copies = if finds k && not (owes k) then old.copies + 1 else old.copies }) ∙ drawn old.card.owed touch old.flips old.copies

-- after a swap that copies
pub copy_counted : (old new : CountedCard) (card : Meaning) (touch fill found : Bool) → fill ≡ false → found ≡ old.card.owed → card.owed ≡ (fill || (old.card.owed && not touch)) →
    new ≡ record { card = card; flips = old.flips; copies = if found && not card.owed then old.copies + 1 else old.copies } → counted new ≡ flipped_where fill (paid_where touch false (counted old))
copy_counted old new card touch fill found part finds owes is =
    draw_counted old new card touch found finds (owes ∙ ap (λ b. b || (old.card.owed && not touch)) part) is ∙ ap (λ b. flipped_where b (paid_where touch false (counted old))) (sym part)

-- after a swap that flips
pub flip_counted : (old : CountedCard) (card : Meaning) (touch fill : Bool) (copies : ℕ) → fill ≡ true → touch ≡ true → card.owed ≡ (fill || (old.card.owed && not touch)) → copies ≡ (if old.card.owed then old.copies + 1 else old.copies) →
    ◌≡◌ {A = Owing} (record { owed = card.owed; flips = old.flips + 1; copies = copies }) (flipped_where fill (paid_where touch false (counted old)))
flip_counted old card touch fill copies all some owes is =
    (λ k. record { owed = (owes ∙ ap (λ b. b || (old.card.owed && not touch)) all) k; flips = old.flips + 1; copies = is k })
    ∙ flipped old.card.owed old.flips old.copies
    ∙ (λ k. flipped_where (sym all k) (paid_where (sym some k) false (counted old)))

-- what is owed after something was carried and painted
pub show_owed : (a b c carried painted : Bool) → b ≡ (a && not carried) → c ≡ (b && not painted) → c ≡ (a && not (carried || painted))
show_owed a b c carried painted first second = second ∙ ap (λ t. t && not painted) first ∙ both a carried painted
  where
    both : (a p q : Bool) → ((a && not p) && not q) ≡ (a && not (p || q))
    both true true q = refl
    both true false q = refl
    both false p q = refl

-- whether a swap flipped
pub fills_where : (b : Bool) (r : Swapped) → r ≡ (if b then Flipped else Copied) → r ≡ Flipped → b ≡ true
fills_where true r answer is = refl
fills_where false r answer is = absurd (let no : ◌≡◌ {A = Swapped} Copied Flipped = sym answer ∙ is in cc)

pub copies_where : (b : Bool) (r : Swapped) → r ≡ (if b then Flipped else Copied) → r ≡ Copied → b ≡ false
copies_where false r answer is = refl
copies_where true r answer is = absurd (let no : ◌≡◌ {A = Swapped} Flipped Copied = sym answer ∙ is in cc)
