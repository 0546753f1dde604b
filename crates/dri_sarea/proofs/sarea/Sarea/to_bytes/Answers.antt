use Rattle.std.proofs.Common.{ℕ, List, sym, ◌∙◌, ap}
use Rattle.std.specs.Prelude.{length}
use Rattle.dri_sarea.specs.Images.{bad_at}
use Rattle.dri_sarea.proofs.Imaging.{image_size, image_good}
use Rattle.dri_sarea.proofs.Making.{one_area}
use Rattle.dri_sarea.proofs.sarea.Sarea.to_bytes.Goals as goal

pub returns-clause-size : goal.returns-clause-size
returns-clause-size c = ap (λ (xs : List ℕ). length xs) (c.from_vec.ensures ∙ c.in_ok-bytes.ensures.image) ∙ image_size c.args.self.now

pub returns-clause-good : goal.returns-clause-good
returns-clause-good c = ap (λ (xs : List ℕ). bad_at xs) (c.from_vec.ensures ∙ c.in_ok-bytes.ensures.image) ∙ image_good c.args.self.now c.in_ok-bytes.ensures.area

pub returns-clause-only : goal.returns-clause-only
returns-clause-only c = λ other h e. one_area other c.args.self.now h c.in_ok-bytes.ensures.area (sym e ∙ (c.from_vec.ensures ∙ c.in_ok-bytes.ensures.image))
