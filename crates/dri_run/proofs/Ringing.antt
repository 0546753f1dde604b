-- What a ring shows of a recording is what the recording gives.
use Rattle.std.proofs.Common.{◌≡◌, ℕ, List, ap, ◌∙◌, subst}
use Rattle.dri_base.specs.declared.journal.Entry.{Entry}
use Rattle.dri_base.specs.declared.scene.Scene.{Scene}
use Rattle.dri_core.specs.Runs.{after}
use Rattle.dri_ring.specs.Counts.{Counts, ring_counts}
use Rattle.dri_ring.specs.Replays.{IsRinged}
use Rattle.dri_ring.specs.declared.ringed.Ringed.{Ringed}
use Rattle.dri_ppm.specs.Ppm.{ppm}
use Rattle.dri_run.proofs.Showing.{Shows, screen}
use Rattle.dri_run.specs.RingedRun.{GivesRinged, line_of_counts, ring_line}
use Rattle.dri_run.specs.declared.recording.Recording.{Recording}

-- the scene that is lent and the entries are the recording's
same_ringed : (room : ℕ) (r : Recording) (lent : Scene) (entries : List Entry) (ringed : Ringed) → lent ≡ r.scene → entries ≡ r.journal → IsRinged lent entries room ringed → IsRinged r.scene r.journal room ringed
same_ringed room r lent entries ringed lends same is = subst (λ (es : List Entry). IsRinged r.scene es room ringed) same (subst (λ (s : Scene). IsRinged s entries room ringed) lends is)

pub ring_shows : (room : ℕ) (r : Recording) (lent : Scene) (entries : List Entry) (ringed : Ringed) → lent ≡ r.scene → entries ≡ r.journal → IsRinged lent entries room ringed → Shows r.scene (after r.scene r.journal).front ringed.picture
ring_shows room r lent entries ringed lends same is =
    let shows = same_ringed room r lent entries ringed lends same is in
    record { width = shows.width; height = shows.height; pixels = shows.pixels }

-- the line of the counts
ring_counted : (puts idles most : ℕ) (k : Counts) → puts ≡ k.puts → idles ≡ k.idles → most ≡ k.most → ring_line puts idles most ≡ line_of_counts k
ring_counted puts idles most k first second third =
    ap (λ n. ring_line n idles most) first ∙ ap (λ n. ring_line k.puts n most) second ∙ ap (ring_line k.puts k.idles) third

pub ring_gives : (room : ℕ) (r : Recording) (lent : Scene) (entries : List Entry) (ringed : Ringed) (image text line : List ℕ) → lent ≡ r.scene → entries ≡ r.journal → IsRinged lent entries room ringed →
    image ≡ ppm ringed.picture.width ringed.picture.height ringed.picture.pixels → text ≡ line → line ≡ ring_line ringed.puts ringed.idles ringed.most → GivesRinged room r image text
ring_gives room r lent entries ringed image text line lends same is picture written spelled =
    let shows = same_ringed room r lent entries ringed lends same is in
    record {
      run = shows.run;
      picture = screen r.scene (after r.scene r.journal).front ringed.picture image (ring_shows room r lent entries ringed lends same is) picture;
      notes = written ∙ spelled ∙ ring_counted ringed.puts ringed.idles ringed.most (ring_counts r.scene room r.journal) shows.puts shows.idles shows.most;
    }
