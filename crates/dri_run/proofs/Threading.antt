-- What a run in threads gives, from what is known of its journal, and that a text is that of one journal.
use Rattle.std.proofs.Common.{◌≡◌, ℕ, List, All, sym, ap, ◌∙◌, subst}
use Rattle.dri_base.specs.declared.colour.Rgb.{Rgb}
use Rattle.dri_base.specs.declared.journal.Entry.{Entry}
use Rattle.dri_base.specs.declared.scene.Scene.{Scene}
use Rattle.dri_base.specs.Planes.{plane}
use Rattle.dri_core.specs.Runs.{after, plain}
use Rattle.dri_shared.specs.States.{SharedState, world_of}
use Rattle.dri_journal.specs.Journals.{FitsWords, journal_text}
use Rattle.dri_ppm.specs.Ppm.{ppm}
use Rattle.dri_run.specs.ThreadedRun.{Determines, GivesInThreads, IsJournalOf}
use Rattle.dri_journal.proofs.Spellings.{text_determines}

determines : (journal : List Entry) (text : List ℕ) → All FitsWords journal → text ≡ journal_text journal → Determines text journal
determines journal text fits spelled = record {
  fits = fits;
  spelled = spelled;
  alone = λ other fit same. text_determines other journal fit fits (sym same ∙ spelled);
}

pub gives : (scene : Scene) (v : SharedState) (width height : ℕ) (pixels : List Rgb) (image text : List ℕ) → v.scene ≡ plain scene → IsJournalOf v.scene v.journal →
    width ≡ v.scene.width → height ≡ v.scene.height → pixels ≡ plane v.scene.width v.scene.height (world_of v).front →
    image ≡ ppm width height pixels → All FitsWords v.journal → text ≡ journal_text v.journal → GivesInThreads scene image text
gives scene v width height pixels image text same run wide high shown drawn fits spelled = record {
  journal = v.journal;
  run = subst (λ (s : Scene). IsJournalOf s v.journal) same run;
  picture = drawn ∙ sized ∙ ap (λ (s : Scene). ppm s.width s.height (plane s.width s.height (after s v.journal).front)) same;
  notes = determines v.journal text fits spelled;
} where
  sized : ppm width height pixels ≡ ppm v.scene.width v.scene.height (plane v.scene.width v.scene.height (world_of v).front)
  sized = ap (λ n. ppm n height pixels) wide ∙ ap (λ n. ppm v.scene.width n pixels) high ∙ ap (λ ps. ppm v.scene.width v.scene.height ps) shown
