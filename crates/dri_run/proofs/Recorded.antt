-- The journal's text stands behind the scene's part.
use Rattle.std.proofs.Common.{◌≡◌, ℕ, ◌+◌, ◌<◌, ◌≤◌, List, length, drop, Ok, Err, ap, ◌∙◌, arith, subst, length-drop}
use Rattle.dri_base.specs.Limits.{word_end}
use Rattle.dri_base.specs.declared.journal.Entry.{Entry}
use Rattle.dri_base.specs.declared.scene.Scene.{Scene}
use Rattle.dri_journal.specs.Readings.{journal_of_text}
use Rattle.dri_journal.specs.Readings as journals
use Rattle.dri_journal.specs.declared.fault.JournalFault.{JournalFault}
use Rattle.dri_journal.specs.declared.fault.JournalFault.TheVariants as journal_faults
use Rattle.dri_scene.specs.Readings.{part_of}
use Rattle.dri_scene.specs.Readings as scenes
use Rattle.dri_scene.specs.declared.fault.SceneFault.{SceneFault}
use Rattle.dri_scene.specs.declared.part.Part.{Part}
use Rattle.dri_words.specs.Lines.{◌>>=◌}
use Rattle.dri_words.specs.declared.reason.Reason.{Reason}
use Rattle.dri_run.proofs.Behind.{behind_part, journal_line, part_fits, part_refused}
use Rattle.dri_run.specs.Readings.{Spells, refusal}
use Rattle.dri_run.specs.Recordings.{behind, recording_of, refusal_behind, with_journal}

-- the scene is refused
pub scene_refused : (bytes : List ℕ) (fault : SceneFault) → scenes.Gives {A = Scene × Part} (Err fault) (part_of bytes) → Spells (Err (refusal fault)) (recording_of bytes)
unfolding recording_of
scene_refused bytes fault is = part_refused with_journal bytes fault is

-- what is made of the journal's text
journal_next : (bytes rest : List ℕ) (read : Scene × Part) → part_of bytes ≡ Ok read → rest ≡ drop read.1.bytes bytes →
    recording_of bytes ≡ with_journal read.0 read.1.lines rest
unfolding recording_of
journal_next bytes rest read is same = behind_part with_journal bytes rest read is same

-- scene and journal are there
pub both_read : (bytes rest : List ℕ) (read : Scene × Part) (journal : List Entry) → part_of bytes ≡ Ok read → rest ≡ drop read.1.bytes bytes → journal_of_text rest ≡ Ok journal →
    recording_of bytes ≡ Ok record { scene = read.0; journal = journal }
both_read bytes rest read journal is same spelled =
    journal_next bytes rest read is same ∙ ap (λ r. behind read.1.lines r >>= λ entries. Ok record { scene = read.0; journal = entries }) spelled

-- the journal is refused
pub journal_refused : (bytes rest : List ℕ) (read : Scene × Part) (fault : JournalFault) → part_of bytes ≡ Ok read → rest ≡ drop read.1.bytes bytes → journals.Gives (Err fault) (journal_of_text rest) →
    Spells (Err (refusal_behind read.1.lines fault)) (recording_of bytes)
journal_refused bytes rest read (journal_faults.Refused line reason) is same refused =
    journal_next bytes rest read is same ∙ ap (λ r. behind read.1.lines r >>= λ entries. Ok record { scene = read.0; journal = entries }) refused
journal_refused bytes rest read journal_faults.OutOfMemory is same refused = tt

-- its line fits, counted over all the bytes
pub line_fits : (bytes rest : List ℕ) (read : Scene × Part) (fault : JournalFault) → length bytes ≤ 33554432 → part_of bytes ≡ Ok read → rest ≡ drop read.1.bytes bytes → journals.Gives (Err fault) (journal_of_text rest) →
    (line : ℕ) (reason : Reason) → fault ≡ journal_faults.Refused line reason → read.1.lines + line < word_end
line_fits bytes rest read fault few is same refused line reason named =
    let part = part_fits bytes read.0 read.1 is in
    let there = subst (λ f. journals.Gives (Err f) (journal_of_text rest)) named refused in
    omega (arith, few, part.within, part.short, journal_line rest _ there, ap length same, length-drop read.1.bytes bytes)
