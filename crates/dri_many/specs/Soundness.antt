-- A reading of lines that are allowed has groups of the scene, as far as it goes.
use Rattle.std.specs.Prelude.{◌≡◌, ◌≢◌, ◌≤◌, ◌+◌, ◌++◌, [], length, All, AllPairs}
use Rattle.dri_base.specs.declared.scene.Scene.{Scene}
use Rattle.dri_many.specs.declared.reading.Place.{Place}
use Rattle.dri_many.specs.declared.reading.Place.TheVariants as places
use Rattle.dri_many.specs.declared.reading.Reading.{Reading}
use Rattle.dri_many.specs.Groupings.{IsGrouping, all_members, current_count, most_currents}

-- the group that is being read is one of the scene, and none of its members stands in another
pub record IsBlock (s : Scene) (r : Reading) : Type 0 where
  pub grouping : IsGrouping s r.group
  pub apart : AllPairs ◌≢◌ (all_members r.groups ++ r.group.members)

-- what the place says of the group that is being read
abbrev pub BlockAt : Scene → Place → Reading → Type 0
BlockAt s places.Block r = IsBlock s r
BlockAt s place r = r.group.currents ≡ []

-- a reading of lines that are allowed
pub record IsSound (s : Scene) (r : Reading) : Type 0 where
  pub each : All (IsGrouping s) r.groups
  pub apart : AllPairs ◌≢◌ (all_members r.groups)
  pub counted : current_count r.groups + length r.group.currents ≡ r.currents
  pub few : r.currents ≤ most_currents
  pub block : BlockAt s r.place r
