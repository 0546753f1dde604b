-- Segments: how the members of a group follow one another in a journal.
use Rattle.std.specs.Prelude.{Bool, List, [], false, filter, flat_map, true, ℕ, ◌++◌, ◌+◌, ◌∷◌, ◌≡◌}
use Rattle.dri_base.specs.declared.journal.Entry.{Entry}
use Rattle.dri_base.specs.declared.scene.Scene.{Scene}
use Rattle.dri_core.specs.Runs.{after_entries, client_of}
use Rattle.dri_core.specs.Worlds.{World, opening}
use Rattle.dri_many.specs.declared.grouping.Grouping.{Grouping}
use Rattle.dri_world.specs.Currents.{current_at, ends_segment, is_member, is_over, ran_after}

-- the entries of a group's members
abbrev pub entries_of : Grouping → List Entry → List Entry
entries_of g es = filter (λ e. is_member g (client_of e)) es

-- entries of client c alone, up to the first that ends its segment, and no further; and whether a command ran in the hold before them
abbrev pub IsSegment : ℕ → Bool → List Entry → Type 0
IsSegment c ran [] = ⊥
IsSegment c ran (e ∷ es) = (client_of e ≡ c) × (ends_segment ran e ≡ true → es ≡ []) × (ends_segment ran e ≡ false → IsSegment c (ran_after ran e) es)

-- in a part of a journal the group's entries are a segment of its member c; an empty one where c has ended or is dead before
pub record HasSegment (g : Grouping) (w : World) (c : ℕ) (ran : Bool) (part : List Entry) : Type 0 where
  pub empty : is_over w c ≡ true → entries_of g part ≡ []
  pub whole : is_over w c ≡ false → IsSegment c ran (entries_of g part)

-- in these parts, one after another, the group's entries are the segments of who is made current from place k on
abbrev pub HaveSegments : Scene → Grouping → World → ℕ → List (List Entry) → Type 0
HaveSegments s g w k [] = Unit {0}
HaveSegments s g w k (part ∷ parts) = HasSegment g w (current_at g k) false part × HaveSegments s g (after_entries s w part) (k + 1) parts

-- the journal is cut into parts that have the segments in the order of the group, and a rest with no entry of its members
pub record IsSegmented (s : Scene) (g : Grouping) (journal : List Entry) : Type 0 where
  pub parts : List (List Entry)
  pub rest : List Entry
  pub cut : journal ≡ flat_map (λ part. part) parts ++ rest
  pub each : HaveSegments s g (opening s) 0 parts
  pub over : entries_of g rest ≡ []
