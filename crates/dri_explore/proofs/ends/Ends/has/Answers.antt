use Rattle.std.proofs.Common.{◌≡◌, ◌∙◌, sym, arith, refl}
use Rattle.std.proofs.lemmas.Bool.{true≢false}
use Rattle.dri_explore.specs.declared.ends.End.{End}
use Rattle.dri_explore.proofs.Walking.{all_next, all_of, journal_there, none_listed}
use Rattle.dri_explore.proofs.ends.Ends.has.Goals as goal

pub returns-then-are_entries : goal.returns-then-are_entries
returns-then-are_entries c = (λ e. journal_there c.args.self.now.ends c.loop-i.i c.get.result.now c.args.journal.now c.get.ensures (sym c.as_slice.ensures ∙ c.are_entries.ensures.0 c.if-are_entries.true), λ there. refl)

pub loop-i-preserved : goal.loop-i-preserved
loop-i-preserved c = all_next (λ (e : End). e.journal ≡ c.args.journal.now → ⊥) c.args.self.now.ends c.loop-i.i c.get.result.now c.get.ensures c.loop-i.invariant (λ same. true≢false (sym (c.are_entries.ensures.1 (c.as_slice.ensures ∙ same)) ∙ c.if-are_entries.false))

pub returns : goal.returns
returns c = let none = all_of (λ (e : End). e.journal ≡ c.args.journal.now → ⊥) c.args.self.now.ends c.loop-i.i (omega (arith, c.loop-i-test.false, c.len-i-end.ensures)) c.loop-i.invariant in
    (λ e. absurd (true≢false (sym e)), λ there. absurd (none_listed c.args.self.now.ends c.args.journal.now none there))
