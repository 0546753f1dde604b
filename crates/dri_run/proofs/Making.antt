-- What is known of the run of a made scene.
use Rattle.std.proofs.Common.{◌≡◌, ◌<◌, ℕ, List, [], length, refl, sym, ◌∙◌, subst}
use Rattle.dri_base.specs.declared.journal.Entry.{Entry}
use Rattle.dri_base.specs.declared.journal.Event.{Event}
use Rattle.dri_base.specs.declared.scene.Scene.{Scene}
use Rattle.dri_base.specs.Limits.{word_end}
use Rattle.dri_base.specs.Ranges.{InRange}
use Rattle.dri_core.specs.Cores.{journal_of}
use Rattle.dri_journal.specs.Checks.{IsReport, Tells}
use Rattle.dri_journal.specs.declared.answer.Report.{Report}
use Rattle.dri_scene.specs.Generator.{generator}
use Rattle.dri_run.proofs.FewEntries.{few_entries}
use Rattle.dri_run.specs.MadeScene.{IsMadeReport}
use Rattle.dri_run.specs.ScheduledRun.{IsRunOf}

-- a made scene has no schedule
no_schedule : (n : ℕ) → (generator n).turns ≡ []
unfolding generator
no_schedule n = refl

-- the run of a scene that was made
made_run : (n : ℕ) (scene played : Scene) (events : List Event) → scene ≡ generator n → played ≡ scene → IsRunOf played events → IsRunOf (generator n) events
made_run n scene played events made same run = subst (λ (s : Scene). IsRunOf s events) (same ∙ made) run

pub made_short : (n : ℕ) (scene played : Scene) (events : List Event) (journal : List Entry) → InRange scene → scene ≡ generator n → played ≡ scene → IsRunOf played events → journal ≡ journal_of events → length journal < word_end
made_short n scene played events journal good made same run is =
    subst (λ (j : List Entry). length j < word_end) (sym is)
    (few_entries (generator n) events (subst InRange made good) (no_schedule n) (made_run n scene played events made same run).turns)

pub made_report : (n : ℕ) (lent scene played : Scene) (events : List Event) (journal : List Entry) (report : Report) → lent ≡ scene → scene ≡ generator n → played ≡ scene → IsRunOf played events → journal ≡ journal_of events →
    IsReport lent journal report → Tells lent journal report → IsMadeReport n report
made_report n lent scene played events journal report lends made same run is reported tells = record {
  events = events;
  run = made_run n scene played events made same run;
  is = subst (λ (j : List Entry). IsReport (generator n) j report) is (subst (λ (s : Scene). IsReport s journal report) (lends ∙ made) reported);
  tells = subst (λ (j : List Entry). Tells (generator n) j report) is (subst (λ (s : Scene). Tells s journal report) (lends ∙ made) tells);
}
