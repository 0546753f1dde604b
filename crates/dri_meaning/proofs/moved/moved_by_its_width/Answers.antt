use Rattle.std.proofs.Common.{◌∷◌, [], rules, arith, refl, inl, inr}
use Rattle.std.proofs.lemmas.List.Elements.{All-append, All-replicate}
use Rattle.dri_base.specs.Ranges.{ItemInRange}
use Rattle.dri_base.specs.declared.command.Item.TheVariants.{Turn}
use Rattle.dri_core.specs.ExampleParts.{turns_of}
use Rattle.dri_meaning.proofs.moved.moved_by_its_width.Goals as goal

pub returns-clause-in_range : goal.returns-clause-in_range
returns-clause-in_range c = record {
  card = search rules;
  windowed = search rules;
  scripted = search rules;
  few = omega arith;
  changed = search rules;
  scheduled = record {
    few = omega arith;
    each = All-append (ItemInRange (1 ∷ [])) (turns_of 8 1) (turns_of 1 0)
        (All-replicate (ItemInRange (1 ∷ [])) 8 (Turn 1) (inr (0, omega arith, refl)))
        (All-replicate (ItemInRange (1 ∷ [])) 1 (Turn 0) (inl refl));
    once = search rules;
  };
}
