-- The laws of runs, of scenes in range.
use Rattle.std.proofs.Common.{◌≡◌, List, true, sym, subst}
use Rattle.dri_base.specs.Ranges.{InRange}
use Rattle.dri_base.proofs.RangeLemmas.{well_formed}
use Rattle.dri_base.proofs.RegionSizes.{region_size_within}
use Rattle.dri_base.specs.declared.journal.Entry.{Entry}
use Rattle.dri_base.specs.declared.journal.Event.{Event}
use Rattle.dri_base.specs.declared.scene.Scene.{Scene}
use Rattle.dri_core.specs.CoreRuns.{IsRun, after_events, ConfinedRun, OwnRun, SoloLeftRun, WordHasImages, WordIsClean, WordIsCurrent}
use Rattle.dri_core.specs.Cores.{journal_of, opening_core}
use Rattle.dri_core.specs.Frames.{Own, SoloLeft, StampTells}
use Rattle.dri_core.specs.Measures.{TurnsLeaveLess, ComesToAnEnd}
use Rattle.dri_core.specs.Runs.{after, HoldRun, Confined, LightIsCurrent, ActingIsCurrent, OwnerIsClean, Intact, Whole}
use Rattle.dri_core.specs.TurnLaws.{OneEvent, TurnsAreLegal, NoLightAfterMark, OneKill, KillsAreLegal, IsScheduled, IsPlayed}
use Rattle.dri_core.specs.Turns.{all_pass, played, round, turns_and_rounds, IsTurns}
use Rattle.dri_core.proofs.CoreLaws.{confined_core, own_core, solo_left_core}
use Rattle.dri_core.proofs.Cores.{journal_is_hold_run, word_has_images, word_is_clean, word_is_current}
use Rattle.dri_core.proofs.Draws.{own_run}
use Rattle.dri_core.proofs.Endings as Endings
use Rattle.dri_core.proofs.Laws.{confined_run, light_is_current, acting_is_current}
use Rattle.dri_core.proofs.OneTurn.{one_event, turns_are_legal, no_light_after_mark}
use Rattle.dri_core.proofs.TurnEvents.{known_after}
use Rattle.dri_core.proofs.Going.{turn_less, going_after}
use Rattle.dri_core.proofs.Played.{one_kill, run_is_played, played_is_run}
use Rattle.dri_core.proofs.Rounds.{kill_legal, turns_are_run}
use Rattle.dri_core.proofs.Stamps.{stamp_tells}
use Rattle.dri_core.proofs.RoundsEnd.{comes_to_an_end}
use Rattle.dri_core.proofs.Stood as Stood
use Rattle.dri_core.proofs.Sound.{sound_after, intact_at}
use Rattle.std.specs.Prelude.{ℕ, ◌≤◌}
use Rattle.dri_base.specs.declared.command.Item.{Item}

module _ (s : Scene) (journal : List Entry) (good : InRange s) (run : HoldRun s journal) where
  -- who may take the word lightly is current
  pub light_current : LightIsCurrent s (after s journal)
  light_current = light_is_current s (after s journal) (sound_after s journal (well_formed s good) run)

  -- who may act is current
  pub acting_current : ActingIsCurrent s (after s journal)
  acting_current = acting_is_current s (after s journal) (sound_after s journal (well_formed s good) run)

  -- the owner's clean groups are in the card
  pub owner_clean : OwnerIsClean s (after s journal)
  owner_clean = (sound_after s journal (well_formed s good) run).main.clean

  -- placed textures are intact
  pub intact : Intact s (after s journal)
  intact = intact_at s (after s journal) (region_size_within s.region_size good.card.sized).0 (sound_after s journal (well_formed s good) run)

  pub confined : Confined s journal
  confined = confined_run s journal (well_formed s good) run

  pub own : Own s journal
  own = own_run s journal (well_formed s good) run

  -- a stamp tells whether a window was touched
  pub stamp : (e : Entry) (n : ℕ) → n ≤ 64 → StampTells s (after s journal) e n
  stamp e n le = stamp_tells s (after s journal) e n (sound_after s journal (well_formed s good) run).main le

  pub solo_left : SoloLeft s journal
  solo_left = Stood.solo_left s journal (well_formed s good) run

module _ (s : Scene) (events : List Event) (good : InRange s) (run : IsRun s events) where
  -- the journal of a run
  pub hold_run : HoldRun s (journal_of events)
  hold_run = journal_is_hold_run s events (well_formed s good) run

  -- who may take the word lightly is current
  pub word_current : WordIsCurrent s (after_events s (opening_core s) events)
  word_current = let known = known_after s events (well_formed s good) run in word_is_current s (after_events s (opening_core s) events) known.sound known.tied

  pub word_clean : WordIsClean s (after_events s (opening_core s) events)
  word_clean = let known = known_after s events (well_formed s good) run in word_is_clean s (after_events s (opening_core s) events) known.sound known.tied

  pub word_images : WordHasImages s (after_events s (opening_core s) events)
  word_images = let known = known_after s events (well_formed s good) run in word_has_images s (after_events s (opening_core s) events) known.sound known.tied

  pub confined_events : ConfinedRun s events
  confined_events = confined_core s events (well_formed s good) run

  pub own_events : OwnRun s events
  own_events = own_core s events (well_formed s good) run

  pub solo_left_events : SoloLeftRun s events
  solo_left_events = solo_left_core s events (well_formed s good) run

  -- turns
  pub one_turn : OneEvent s (after_events s (opening_core s) events)
  one_turn = one_event s (after_events s (opening_core s) events) (well_formed s good) (known_after s events (well_formed s good) run)

  pub turns_legal : TurnsAreLegal s (after_events s (opening_core s) events)
  turns_legal = turns_are_legal s (after_events s (opening_core s) events) (well_formed s good) (known_after s events (well_formed s good) run)

  pub kill_one : OneKill s (after_events s (opening_core s) events)
  kill_one = one_kill s (after_events s (opening_core s) events)

  pub kills_legal : KillsAreLegal s (after_events s (opening_core s) events)
  kills_legal = kill_legal s (after_events s (opening_core s) events)

  -- every run is played
  pub is_played : IsPlayed s events
  is_played = run_is_played s events (well_formed s good) run

  pub no_light : NoLightAfterMark s events
  no_light = no_light_after_mark s events (well_formed s good) run

  pub turns_leave_less : TurnsLeaveLess s (after_events s (opening_core s) events)
  turns_leave_less = turn_less s (after_events s (opening_core s) events) (well_formed s good) (going_after s events (well_formed s good) run)

  pub whole_where_passed : all_pass s (after_events s (opening_core s) events) (round s) ≡ true → Whole s (journal_of events)
  whole_where_passed = Endings.whole_where_passed s events (well_formed s good) run

-- the schedule and any number of rounds
pub scheduled_run : (s : Scene) (n : ℕ) → InRange s → IsRun s (turns_and_rounds s n)
scheduled_run s n good = turns_are_run s n (well_formed s good)

pub ends : (s : Scene) → InRange s → ComesToAnEnd s
ends s good = comes_to_an_end s (well_formed s good)

-- what the items make is a run
pub items_run : (s : Scene) (items : List Item) → InRange s → IsScheduled s items → IsRun s (played s (opening_core s) items)
items_run s items good all = played_is_run s items (well_formed s good) all

-- the run of the schedule
pub turns_run : (s : Scene) (events : List Event) → InRange s → IsTurns s events → IsRun s events
turns_run s events good turns = subst (IsRun s) (sym turns.made) (scheduled_run s turns.rounds good)

pub turns_whole : (s : Scene) (events : List Event) → InRange s → IsTurns s events → Whole s (journal_of events)
turns_whole s events good turns = whole_where_passed s events good (turns_run s events good turns) turns.ended
