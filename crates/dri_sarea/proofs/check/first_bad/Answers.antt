use Rattle.std.proofs.Common.{◌≡◌, ℕ, List, Some, None, sym, ◌∙◌, ap}
use Rattle.dri_sarea.specs.declared.layout.Field.{Field}
use Rattle.dri_sarea.specs.Layouts.{zero_fields}
use Rattle.dri_sarea.specs.Images.{number_at, first_bad}
use Rattle.dri_sarea.proofs.Fields.{first_bad_stop}
use Rattle.dri_sarea.proofs.Parts.{the_numbers, the_drawables, the_entries, from_lock, from_drawables, from_numbers, from_entries, from_rest, word_passed, padding_passed, lock_passed, drawables_passed, numbers_passed, entries_passed, rest_is}
use Rattle.dri_sarea.proofs.check.first_bad.Goals as goal

pub returns-in-Some : goal.returns-in-Some
returns-in-Some c =
    let b = c.args.bytes.now in let n = number_at b 2208 4 in
    sym (word_passed b n (λ i. (c.type_inv.bytes i).fits) ∙ first_bad_stop b 4 c.in-Some.bad (zero_fields 60) (from_lock n) (sym c.in-Some.ensures))

pub returns-in-Some-bad_zero : goal.returns-in-Some-bad_zero
returns-in-Some-bad_zero c =
    let b = c.args.bytes.now in let n = number_at b 2208 4 in
    sym (word_passed b n (λ i. (c.type_inv.bytes i).fits) ∙ padding_passed b n (sym c.in_default.ensures)
    ∙ first_bad_stop b 64 c.in-Some-bad_zero.bad (zero_fields 64) (from_drawables n) (sym c.in-Some-bad_zero.ensures))

pub returns-in-Some-bad_drawable : goal.returns-in-Some-bad_drawable
returns-in-Some-bad_drawable c =
    let b = c.args.bytes.now in let n = number_at b 2208 4 in
    sym (word_passed b n (λ i. (c.type_inv.bytes i).fits) ∙ padding_passed b n (sym c.in_default.ensures) ∙ lock_passed b n (sym c.in_default-bad_zero.ensures)
    ∙ first_bad_stop b 128 c.in-Some-bad_drawable.bad the_drawables (from_numbers n) (sym c.in-Some-bad_drawable.ensures))

pub returns-in-Some-bad_field : goal.returns-in-Some-bad_field
returns-in-Some-bad_field c =
    let b = c.args.bytes.now in let n = number_at b 2208 4 in
    let numbers : first_bad b 2176 c.numbers.result ≡ first_bad b 2176 the_numbers = ap (λ (fs : List Field). first_bad b 2176 fs) c.numbers.ensures in
    let bad : first_bad b 2176 the_numbers ≡ Some c.in-Some-bad_field.bad = sym numbers ∙ sym c.in-Some-bad_field.ensures in
    sym (word_passed b n (λ i. (c.type_inv.bytes i).fits) ∙ padding_passed b n (sym c.in_default.ensures) ∙ lock_passed b n (sym c.in_default-bad_zero.ensures) ∙ drawables_passed b n (sym c.in_default-bad_drawable.ensures)
    ∙ first_bad_stop b 2176 c.in-Some-bad_field.bad the_numbers (from_entries n) bad)

pub returns-in-Some-bad_entry : goal.returns-in-Some-bad_entry
returns-in-Some-bad_entry c =
    let b = c.args.bytes.now in let n = number_at b 2208 4 in
    let numbers : first_bad b 2176 c.numbers.result ≡ first_bad b 2176 the_numbers = ap (λ (fs : List Field). first_bad b 2176 fs) c.numbers.ensures in
    let good : first_bad b 2176 the_numbers ≡ None = sym numbers ∙ sym c.in_default-bad_field.ensures in
    let entries : first_bad b 2216 (the_entries c.number_at-count.result) ≡ first_bad b 2216 (the_entries n) = ap (λ (m : ℕ). first_bad b 2216 (the_entries m)) c.number_at-count.ensures.number in
    let bad : first_bad b 2216 (the_entries n) ≡ Some c.in-Some-bad_entry.bad = sym entries ∙ sym c.in-Some-bad_entry.ensures in
    sym (word_passed b n (λ i. (c.type_inv.bytes i).fits) ∙ padding_passed b n (sym c.in_default.ensures) ∙ lock_passed b n (sym c.in_default-bad_zero.ensures) ∙ drawables_passed b n (sym c.in_default-bad_drawable.ensures)
    ∙ numbers_passed b n good ∙ first_bad_stop b 2216 c.in-Some-bad_entry.bad (the_entries n) from_rest bad)

pub returns : goal.returns
returns c =
    let b = c.args.bytes.now in let n = number_at b 2208 4 in
    let numbers : first_bad b 2176 c.numbers.result ≡ first_bad b 2176 the_numbers = ap (λ (fs : List Field). first_bad b 2176 fs) c.numbers.ensures in
    let good : first_bad b 2176 the_numbers ≡ None = sym numbers ∙ sym c.in_default-bad_field.ensures in
    let entries : first_bad b 2216 (the_entries c.number_at-count.result) ≡ first_bad b 2216 (the_entries n) = ap (λ (m : ℕ). first_bad b 2216 (the_entries m)) c.number_at-count.ensures.number in
    let listed : first_bad b 2216 (the_entries n) ≡ None = sym entries ∙ sym c.in_default-bad_entry.ensures in
    c.bad_zero-3.ensures ∙ sym (word_passed b n (λ i. (c.type_inv.bytes i).fits) ∙ padding_passed b n (sym c.in_default.ensures) ∙ lock_passed b n (sym c.in_default-bad_zero.ensures) ∙ drawables_passed b n (sym c.in_default-bad_drawable.ensures)
    ∙ numbers_passed b n good ∙ entries_passed b n listed ∙ rest_is b 2736)
