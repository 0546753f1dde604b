-- What a card of sixteen bits shows of a recording is what the recording gives.
use Rattle.std.proofs.Common.{◌≡◌, ℕ, List, [], subst}
use Rattle.dri_base.specs.declared.journal.Entry.{Entry}
use Rattle.dri_card16.specs.Replays.{IsPicture16}
use Rattle.dri_card16.specs.Sixteen.{after16}
use Rattle.dri_meaning.specs.declared.picture.Picture.{Picture}
use Rattle.dri_ppm.specs.Ppm.{ppm}
use Rattle.dri_run.proofs.Showing.{Shows, screen}
use Rattle.dri_run.specs.SixteenRun.{GivesSixteen}
use Rattle.dri_run.specs.declared.recording.Recording.{Recording}

pub sixteen_shows : (r : Recording) (entries : List Entry) (picture : Picture) → entries ≡ r.journal → IsPicture16 r.scene entries picture → Shows r.scene (after16 r.scene r.journal).front picture
sixteen_shows r entries picture same is =
    let shows = subst (λ (es : List Entry). IsPicture16 r.scene es picture) same is in
    record { width = shows.width; height = shows.height; pixels = shows.pixels }

pub sixteen_gives : (r : Recording) (entries : List Entry) (picture : Picture) (image text : List ℕ) → entries ≡ r.journal → IsPicture16 r.scene entries picture → image ≡ ppm picture.width picture.height picture.pixels → text ≡ [] → GivesSixteen r image text
sixteen_gives r entries picture image text same is written none =
    let shows = subst (λ (es : List Entry). IsPicture16 r.scene es picture) same is in
    record {
      run = shows.run;
      picture = screen r.scene (after16 r.scene r.journal).front picture image (sixteen_shows r entries picture same is) written;
      notes = none;
    }
