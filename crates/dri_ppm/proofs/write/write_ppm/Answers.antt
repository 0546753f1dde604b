-- Where the header or a row was taken in part, a front of the bytes was; else the row stands behind those before it.
use Rattle.std.proofs.Common.{◌≡◌, ℕ, ◌+◌, ◌*◌, ◌≤◌, [], ◌++◌, drop, sym, ap, ◌∙◌, arith, rules}
use Rattle.std.proofs.KnownBytes.{Appends-nil}
use Rattle.std.proofs.lemmas.Bool.{false≢true}
use Rattle.std.specs.List.{flat_map}
use Rattle.dri_ppm.proofs.Sending.{front_taken, on_err, rows_more, rows_split, sent_more, takes_piece}
use Rattle.dri_ppm.specs.Ppm.{channels, header, ppm}
use Rattle.dri_ppm.proofs.write.write_ppm.Goals as goal

-- one row further
row_end : (y columns : ℕ) → y * columns ≤ (y + 1) * columns
row_end y columns = grind arith

pub returns-in_err-write_all-clause-front : goal.returns-in_err-write_all-clause-front
returns-in_err-write_all-clause-front g c =
    let plane = c.args.plane.now in
    let held = g.N.Sink.held c.args.sink.now in
    let bytes = c.as_bytes.result.now in
    let same : bytes ≡ header plane.width plane.height = search rules in
    let split : ppm plane.width plane.height plane.pixels ≡ ([] ++ bytes) ++ flat_map channels plane.pixels = ap (λ xs. xs ++ flat_map channels plane.pixels) (sym same) in
    on_err c.from_residual.result (front_taken held held _ [] bytes (flat_map channels plane.pixels) _ split (Appends-nil held) c.in_err-write_all.ensures.prefix)

pub returns-in_err-write_all-2-clause-front : goal.returns-in_err-write_all-2-clause-front
returns-in_err-write_all-2-clause-front g c =
    let first = header c.args.plane.now.width c.args.plane.now.height in
    let columns = c.width-columns.result in
    let pixels = c.pixels-pixels.result.now in
    let b = (c.loop-y.y + 1) * columns in
    let row = c.as_slice.result.now in
    let split = rows_split channels first row pixels _ (c.loop-y.y * columns) b c.pixels-pixels.ensures.value (row_end c.loop-y.y columns) (c.as_slice.ensures.value ∙ c.row_of-row.ensures) in
    on_err c.from_residual-in_err-write_all-2.result (front_taken _ _ _ _ row (flat_map channels (drop b pixels)) _ split c.loop-y.invariant.held c.in_err-write_all-2.ensures.prefix)

pub returns-in_err-write_all-2-clause-room : goal.returns-in_err-write_all-2-clause-room
returns-in_err-write_all-2-clause-room g c = λ n enough takes.
    let first = header c.args.plane.now.width c.args.plane.now.height in
    let columns = c.width-columns.result in
    let pixels = c.pixels-pixels.result.now in
    let b = (c.loop-y.y + 1) * columns in
    let row = c.as_slice.result.now in
    let split = rows_split channels first row pixels _ (c.loop-y.y * columns) b c.pixels-pixels.ensures.value (row_end c.loop-y.y columns) (c.as_slice.ensures.value ∙ c.row_of-row.ensures) in
    let room = takes_piece _ _ _ _ _ _ _ row (flat_map channels (drop b pixels)) _ c.loop-y.invariant split n enough takes in
    absurd (false≢true (c.in_err-write_all-2.ensures.room _ room.0 room.1).0)

pub loop-y-preserved : goal.loop-y-preserved
loop-y-preserved g c =
    let first = header c.args.plane.now.width c.args.plane.now.height in
    let columns = c.width-columns.result in
    let pixels = c.pixels-pixels.result.now in
    let a = c.loop-y.y * columns in
    let b = (c.loop-y.y + 1) * columns in
    let row = c.as_slice.result.now in
    let order = row_end c.loop-y.y columns in
    let is = c.as_slice.ensures.value ∙ c.row_of-row.ensures in
    let split = rows_split channels first row pixels _ a b c.pixels-pixels.ensures.value order is in
    let wrote = c.in_ok-write_all-2.ensures in
    sent_more _ _ _ _ _ _ _ _ _ _ row _ (flat_map channels (drop b pixels)) _ c.loop-y.invariant split (rows_more channels first row pixels a b order is) wrote.ok wrote.later
    (λ n enough takes. ((wrote.room n enough takes).1, (wrote.room n enough takes).2))
