-- The text, whole, and that it is read again.
use Rattle.std.proofs.Common.{◌≡◌, List, ℕ, Ok, subst, sym, arith}
use Rattle.std.proofs.lemmas.Grind.{common_steps}
use Rattle.dri_journal.specs.Journals.{journal_text}
use Rattle.dri_journal.specs.Readings.{journal_of_text}
use Rattle.dri_journal.proofs.ReadBack.{reads_back}
use Rattle.dri_journal.proofs.print.print_journal.Goals as goal

pub returns : goal.returns
returns c =
    let entries = c.args.entries.now in
    let fits = c.in_ok-push_entries.ensures.fit in
    let text : c.from_vec.result ≡ journal_text entries = grind (arith, common_steps) in
    record {
      text = text;
      fits = fits;
      read = λ ranged. subst (λ (b : List ℕ). journal_of_text b ≡ Ok entries) (sym text) (reads_back entries fits ranged);
    }
