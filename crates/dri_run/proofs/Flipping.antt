-- What a card that flips shows of a recording is what the recording gives.
use Rattle.std.proofs.Common.{◌≡◌, ℕ, List, ap, ◌∙◌, subst}
use Rattle.dri_base.specs.declared.journal.Entry.{Entry}
use Rattle.dri_core.specs.Runs.{after}
use Rattle.dri_flip.specs.Owings.{Owing, owing}
use Rattle.dri_flip.specs.Replays.{IsShown}
use Rattle.dri_flip.specs.declared.shown.Shown.{Shown}
use Rattle.dri_ppm.specs.Ppm.{ppm}
use Rattle.dri_run.proofs.Showing.{Shows, screen}
use Rattle.dri_run.specs.FlippedRun.{GivesFlipped, flip_line}
use Rattle.dri_run.specs.declared.recording.Recording.{Recording}

pub flip_shows : (r : Recording) (entries : List Entry) (shown : Shown) → entries ≡ r.journal → IsShown r.scene entries shown → Shows r.scene (after r.scene r.journal).front shown.picture
flip_shows r entries shown same is =
    let shows = subst (λ (es : List Entry). IsShown r.scene es shown) same is in
    record { width = shows.width; height = shows.height; pixels = shows.pixels }

-- the line of the counts
flip_counts : (flips copies : ℕ) (o : Owing) → flips ≡ o.flips → copies ≡ o.copies → flip_line flips copies ≡ flip_line o.flips o.copies
flip_counts flips copies o first second = ap (λ n. flip_line n copies) first ∙ ap (flip_line o.flips) second

pub flip_gives : (r : Recording) (entries : List Entry) (shown : Shown) (image text line : List ℕ) → entries ≡ r.journal → IsShown r.scene entries shown →
    image ≡ ppm shown.picture.width shown.picture.height shown.picture.pixels → text ≡ line → line ≡ flip_line shown.flips shown.copies → GivesFlipped r image text
flip_gives r entries shown image text line same is picture written spelled =
    let shows = subst (λ (es : List Entry). IsShown r.scene es shown) same is in
    record {
      run = shows.run;
      picture = screen r.scene (after r.scene r.journal).front shown.picture image (flip_shows r entries shown same is) picture;
      notes = written ∙ spelled ∙ flip_counts shown.flips shown.copies (owing r.scene r.journal) shows.flips shows.copies;
    }
