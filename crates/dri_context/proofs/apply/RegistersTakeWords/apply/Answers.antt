use Rattle.std.proofs.Common.{◌≡◌, ℕ, ◌≤◌, Some, List, length, take, refl, sym, ap, ◌∙◌, inl, inr, arith}
use Rattle.std.proofs.lemmas.List.{take_all}
use Rattle.dri_base.specs.declared.state.Registers.{Registers}
use Rattle.dri_model.specs.Words.{Spelled}
use Rattle.dri_model.proofs.Faults.{no_fault}
use Rattle.dri_model.proofs.Spelling.{spelled_once}
use Rattle.dri_context.specs.Reading.{opened, run, Reader}
use Rattle.dri_context.proofs.Runs.{run_more}
use Rattle.dri_context.proofs.Accepted.{accepted}
use Rattle.dri_context.proofs.Fillers.{wrong_word, cut_short}
use Rattle.dri_context.proofs.apply.RegistersTakeWords.apply.Goals as goal

pub returns-in-None-clause-bad : goal.returns-in-None-clause-bad
returns-in-None-clause-bad c = inl (wrong_word c.args.self.now c.args.words.now c.loop-at.at c.loop-at.reader c.loop-at-test.true c.loop-at.invariant.ran c.loop-at.invariant.reader (sym c.after.ensures.value ∙ c.in-None.is))

pub returns-in-None-clause-spelled : goal.returns-in-None-clause-spelled
returns-in-None-clause-spelled c = λ s. absurd (no_fault Spelled c.args.words.now c.loop-at.at _ (inl (wrong_word c.args.self.now c.args.words.now c.loop-at.at c.loop-at.reader c.loop-at-test.true c.loop-at.invariant.ran c.loop-at.invariant.reader (sym c.after.ensures.value ∙ c.in-None.is))) s)

pub loop-at-preserved : goal.loop-at-preserved
loop-at-preserved c = record {
  same = refl;
  ran = run_more (Some (opened c.args.self.now)) c.args.words.now c.loop-at.at c.loop-at.reader c.loop-at-test.true c.loop-at.invariant.ran ∙ sym c.in-Some.ensures.value;
  reader = c.in-Some.ensures.reader;
  count = omega (arith, c.in-Some.ensures.count, c.loop-at.invariant.count);
}

-- the words so far are all of them
whole : (old : Registers) (words : List ℕ) (at : ℕ) (r : Reader) → length words ≤ at → run (Some (opened old)) (take at words) ≡ Some r → run (Some (opened old)) words ≡ Some r
whole old words at r past ran = ap (run (Some (opened old))) (sym (take_all at words past)) ∙ ran

pub returns-then-reader-ne0-clause-bad : goal.returns-then-reader-ne0-clause-bad
returns-then-reader-ne0-clause-bad c = inr (cut_short c.args.self.now c.args.words.now c.loop-at.reader (whole c.args.self.now c.args.words.now c.loop-at.at c.loop-at.reader c.loop-at-test.false c.loop-at.invariant.ran) c.loop-at.invariant.reader c.if-reader-ne0.true)

pub returns-then-reader-ne0-clause-spelled : goal.returns-then-reader-ne0-clause-spelled
returns-then-reader-ne0-clause-spelled c = λ s. absurd (no_fault Spelled c.args.words.now (length c.args.words.now) 0 (inr (cut_short c.args.self.now c.args.words.now c.loop-at.reader (whole c.args.self.now c.args.words.now c.loop-at.at c.loop-at.reader c.loop-at-test.false c.loop-at.invariant.ran) c.loop-at.invariant.reader c.if-reader-ne0.true)) s)

pub returns-clause-ok : goal.returns-clause-ok
returns-clause-ok c = accepted c.args.self.now c.args.words.now c.loop-at.reader (whole c.args.self.now c.args.words.now c.loop-at.at c.loop-at.reader c.loop-at-test.false c.loop-at.invariant.ran) c.if-reader-ne0.false

pub returns-clause-spelled : goal.returns-clause-spelled
returns-clause-spelled c = λ s.
    let t = accepted c.args.self.now c.args.words.now c.loop-at.reader (whole c.args.self.now c.args.words.now c.loop-at.at c.loop-at.reader c.loop-at-test.false c.loop-at.invariant.ran) c.if-reader-ne0.false in
    (refl, t.1 ∙ spelled_once c.args.words.now t.0 s c.args.self.now)
