use Rattle.std.proofs.Common.{◌<◌, ◌%◌, ◌∙◌, sym, inl, inr, length, get_or, Ok, ap, subst, arith}
use Rattle.dri_cmdbuf.specs.Decoding.{is_good, triangles_of, IsWhole}
use Rattle.dri_cmdbuf.proofs.Grammar.{whole_inside, whole_spells, buffer_good, buffer_thirteens}
use Rattle.std.proofs.lemmas.Bool.{both_ways}
use Rattle.dri_model.proofs.Buffers.{triangles_same}
use Rattle.dri_cmdbuf.proofs.Places.{wrong_word, cut_short}
use Rattle.dri_cmdbuf.proofs.decoded.decode.Goals as goal

pub returns-then-not-can_stand-clause-bad : goal.returns-then-not-can_stand-clause-bad
returns-then-not-can_stand-clause-bad c = inl (wrong_word c.args.words.now c.loop-at.at c.loop-at-test.true c.loop-at.invariant (λ i _. (c.type_inv.words i).fits) (sym c.can_stand.ensures ∙ c.if-not-can_stand.true))

pub returns-then-words-ne0-clause-bad : goal.returns-then-words-ne0-clause-bad
returns-then-words-ne0-clause-bad c = inr (cut_short c.args.words.now (λ i within. c.loop-at.invariant i (omega arith)) (λ i _. (c.type_inv.words i).fits) c.if-words-ne0.true)

pub returns-clause-triangles : goal.returns-clause-triangles
returns-clause-triangles c =
    let whole : IsWhole c.args.words.now = record { thirteens = c.if-words-ne0.false; good = λ i within. c.loop-at.invariant i (omega arith); small = (λ i _. (c.type_inv.words i).fits) } in
    (whole_inside c.args.words.now whole, whole_spells c.args.words.now whole)

pub returns-then-not-can_stand-clause-read : goal.returns-then-not-can_stand-clause-read
returns-then-not-can_stand-clause-read c = λ ts all spells.
    let stands = buffer_good ts all c.loop-at.at (subst (λ l. c.loop-at.at < length l) spells c.loop-at-test.true) in
    absurd (both_ways (is_good (c.loop-at.at % 13) (get_or c.args.words.now c.loop-at.at 0)) (sym c.can_stand.ensures ∙ c.if-not-can_stand.true) (rw spells stands))

pub returns-then-words-ne0-clause-read : goal.returns-then-words-ne0-clause-read
returns-then-words-ne0-clause-read c = λ ts all spells. absurd (c.if-words-ne0.true (ap (λ l. length l % 13) spells ∙ buffer_thirteens ts))

pub returns-clause-read : goal.returns-clause-read
returns-clause-read c = λ ts all spells.
    let whole : IsWhole c.args.words.now = record { thirteens = c.if-words-ne0.false; good = λ i within. c.loop-at.invariant i (omega arith); small = λ i _. (c.type_inv.words i).fits } in
    ap Ok (triangles_same (triangles_of c.args.words.now) ts (whole_inside c.args.words.now whole) all (sym (whole_spells c.args.words.now whole) ∙ spells))
