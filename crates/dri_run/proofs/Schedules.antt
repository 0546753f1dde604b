-- A schedule's items, and then rounds.
use Rattle.std.proofs.Common.{◌≡◌, [], ◌++◌, true, sym, ap, ◌∙◌, subst}
use Rattle.dri_core.specs.Cores.{opening_core}
use Rattle.dri_core.specs.CoreRuns.{after_events}
use Rattle.dri_core.specs.Turns.{IsTurns, all_pass, played, round, rounds}
use Rattle.dri_core.proofs.Rounds.{played_append}
use Rattle.dri_world.specs.Courses.{Course, GoesOn, IsPlayedOut, core_of}

-- the schedule, from the opening on
schedule_played : (opened scheduled : Course) → opened.events ≡ [] → GoesOn opened scheduled (played opened.scene (core_of opened) opened.scene.turns) →
    scheduled.events ≡ played scheduled.scene (opening_core scheduled.scene) scheduled.scene.turns
schedule_played opened scheduled none goes =
    subst (λ z. scheduled.events ≡ played z (opening_core z) z.turns) (sym goes.scene)
    (goes.events ∙ ap (λ es. es ++ played opened.scene (after_events opened.scene (opening_core opened.scene) es) opened.scene.turns) none)

-- and then rounds until every turn is passed over
pub turns_of : (opened scheduled finished : Course) → opened.events ≡ [] → GoesOn opened scheduled (played opened.scene (core_of opened) opened.scene.turns) →
    IsPlayedOut scheduled finished → IsTurns finished.scene finished.events
turns_of opened scheduled finished none goes out = subst (λ z. IsTurns z finished.events) (sym out.goes_on.scene) (record {
  rounds = out.number;
  made = out.goes_on.events
      ∙ ap (λ es. es ++ played scheduled.scene (after_events scheduled.scene (opening_core scheduled.scene) es) (rounds scheduled.scene out.number)) (schedule_played opened scheduled none goes)
      ∙ sym (played_append scheduled.scene (opening_core scheduled.scene) scheduled.scene.turns (rounds scheduled.scene out.number));
  ended = subst (λ z. all_pass z (after_events z (opening_core z) finished.events) (round z) ≡ true) out.goes_on.scene out.ended;
})
