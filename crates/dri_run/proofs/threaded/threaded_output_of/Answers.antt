-- The lock's journal is that of a run of the scene without its schedule, and the notes are its text.
use Rattle.std.proofs.Common.{◌≡◌, List, All, ap, sym, ◌∙◌, subst, rules}
use Rattle.dri_base.specs.declared.journal.Entry.{Entry}
use Rattle.dri_base.specs.declared.scene.Scene.{Scene}
use Rattle.dri_core.specs.Runs.{Whole, plain}
use Rattle.dri_journal.specs.Journals.{FitsWords, journal_text}
use Rattle.dri_run.specs.ThreadedRun.{IsJournalOf}
use Rattle.dri_run.proofs.Threading.{gives}
use Rattle.dri_run.proofs.threaded.threaded_output_of.Goals as goal

pub returns : goal.returns
returns g c =
    let v = c.in_ok-closed.closed.shared in
    let front = c.front.result.now in
    let output = c.in_ok-output in
    let same : v.scene ≡ plain c.args.scene = c.in_ok-closed.ensures.scene ∙ c.in_ok-scene.ensures.ok ∙ c.plain.ensures in
    let run : IsJournalOf v.scene v.journal = record {
      run = c.journal.ensures.run;
      confined = c.journal.ensures.confined;
      own = c.journal.ensures.own;
      solo_left = c.journal.ensures.solo;
      whole = subst (λ (s : Scene). Whole s v.journal) (sym c.in_ok-closed.ensures.scene) (c.in_ok-closed.ensures.whole (search rules));
    } in
    let fits = subst (λ (es : List Entry). All FitsWords es) c.journal.ensures.same output.ensures.fits in
    gives c.args.scene v front.width front.height front.pixels output.output.picture output.output.notes same run
    c.front.ensures.width c.front.ensures.height c.front.ensures.pixels output.ensures.picture fits
    (output.ensures.notes ∙ ap journal_text c.journal.ensures.same)
