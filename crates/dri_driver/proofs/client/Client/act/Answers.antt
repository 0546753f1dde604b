use Rattle.std.proofs.Common.{◌≡◌, sym, ◌∙◌}
use Rattle.dri_core.specs.Phases.{In, Over}
use Rattle.dri_driver.proofs.client.Client.act.Goals as goal

not_over : In ≡ Over → ⊥
not_over e = cc

pub returns-in_default-Some : goal.returns-in_default-Some
returns-in_default-Some c =
    let step = c.go_on.ensures.step in
    record {
      must_leave = (λ e. absurd (cc), λ m. absurd (not_over (sym c.go_on.ensures.acting ∙ m.0)));
      dies = (λ e. absurd (cc), λ m. absurd (c.go_on.ensures.living m.1));
      done = (λ e. absurd (cc), λ m. absurd (not_over (sym c.go_on.ensures.acting ∙ m.0)));
      event = step.event;
      own = step.own;
      made = step.made;
      acting = step.acting;
      falls = step.falls;
      kept = tt;
      side_kept = tt;
    }
