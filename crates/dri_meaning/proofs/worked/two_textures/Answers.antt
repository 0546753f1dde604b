use Rattle.std.proofs.Common.{◌∷◌, [], rules, arith, refl, inr}
use Rattle.std.proofs.lemmas.List.Elements.{All-append, All-replicate}
use Rattle.dri_base.specs.Ranges.{ItemInRange}
use Rattle.dri_base.specs.declared.command.Item.TheVariants.{Turn}
use Rattle.dri_core.specs.ExampleParts.{turns_of}
use Rattle.dri_meaning.proofs.worked.two_textures.Goals as goal

pub returns-clause-in_range : goal.returns-clause-in_range
returns-clause-in_range c = record {
  card = search rules;
  windowed = search rules;
  scripted = search rules;
  few = omega arith;
  changed = search rules;
  scheduled = record {
    few = omega arith;
    each = All-append (ItemInRange (1 ∷ 2 ∷ [])) (turns_of 13 1) (turns_of 13 2)
        (All-replicate (ItemInRange (1 ∷ 2 ∷ [])) 13 (Turn 1) (inr (0, omega arith, refl)))
        (All-replicate (ItemInRange (1 ∷ 2 ∷ [])) 13 (Turn 2) (inr (1, omega arith, refl)));
    once = search rules;
  };
}
