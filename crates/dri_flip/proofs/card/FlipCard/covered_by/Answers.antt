-- As many pixels as the card has are all of them.
use Rattle.std.proofs.Common.{◌≡◌, ◌<◌, ◌*◌, ◌∙◌, sym, ap, arith}
use Rattle.dri_flip.specs.Meanings.{Meaning}
use Rattle.dri_flip.proofs.Rects.{fill_touches, filled_total, small_area}
use Rattle.dri_flip.proofs.card.FlipCard.covered_by.Goals as goal

-- the sides that were asked for are the card's
across : (c : goal.After-height) → c.width.result ≡ c.args.self.now.front.width
across c = c.width.ensures.value ∙ ap (λ (m : Meaning). m.front.width) c.self.view_is

down : (c : goal.After-height) → c.height.result ≡ c.args.self.now.front.height
down c = c.height.ensures.value ∙ ap (λ (m : Meaning). m.front.height) c.self.view_is

pub returns-clause-fill : goal.returns-clause-fill
returns-clause-fill c = filled_total c.args.self.now.front.width c.args.self.now.front.height c.args.rects.now c.requires.inside c.requires.apart c.total.result (c.width.result * c.height.result) 18446744073709551615
    c.total.ensures (λ i. across c i * down c i) (small_area c.width.result c.height.result c.width.ensures.most c.height.ensures.most)

pub returns-clause-touch : goal.returns-clause-touch
returns-clause-touch c = λ is.
    let wide = across c in
    let high = down c in
    let some_columns = c.width.ensures.some in
    let some_rows = c.height.ensures.some in
    let old = c.args.self.now in
    let columns : 0 < old.front.width = omega (arith, wide, some_columns) in
    let rows : 0 < old.front.height = omega (arith, high, some_rows) in
    fill_touches old.front.width old.front.height c.args.rects.now columns rows (sym (returns-clause-fill c) ∙ is)
