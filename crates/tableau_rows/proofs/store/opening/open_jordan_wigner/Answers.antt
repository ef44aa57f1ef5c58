use Rattle.std.proofs.Common.{◌≡◌, ℕ, ◌+◌, ◌*◌, ◌%◌, ◌^◌, ◌<◌, false, length, set, ap, ◌∙◌, arith, length-set}
use Rattle.pauli.specs.declared.row.Row.{Row}
use Rattle.pauli.specs.Rows.{row, zero_row}
use Rattle.tableau_laws.specs.Opening.{open_J}
use Rattle.tableau_rows.proofs.Counted.{put_more}
use Rattle.tableau_rows.proofs.Words.{shifted, open_even, open_odd, open_last, next_sum}
use Rattle.tableau_rows.proofs.store.opening.open_jordan_wigner.Goals as goal

pub loop-i-preserved : goal.loop-i-preserved
loop-i-preserved c =
    let h = c.args.h in
    let w = c.args.w in
    let i = c.loop-i.i in
    let ys = c.loop-i.ys in
    let is = c.loop-i.invariant.0 in
    let lt : i < w = c.loop-i-test.true in
    let bit : (1 * 2 ^ (h + i)) % 2 ^ 64 ≡ 2 ^ (h + i) = shifted (h + i) (omega arith) in
    let first : ℕ → Row = λ n. row (record { x = ys; z = ys + n }) false in
    let second : ℕ → Row = λ n. row (record { x = ys + n; z = ys }) false in
    let rows = set c.loop-i.rows (i + i) c.plus.result in
    let room : i + i + 1 < length rows = simp length-set (omega arith) in
    let one = put_more zero_row (λ r. r) (open_J h w) c.loop-i.rows (i + i) c.plus.result (omega arith) (c.plus.ensures ∙ ap first bit ∙ open_even h w i ys is lt) c.loop-i.invariant.1 in
    let two = put_more zero_row (λ r. r) (open_J h w) rows (i + i + 1) c.plus-in-loop-i.result room (c.plus-in-loop-i.ensures ∙ ap second bit ∙ open_odd h w i ys is lt) one in
    (ap (λ (n : ℕ). (ys + n) + 2 ^ h) bit ∙ next_sum h w i ys is, λ q less. two q (omega arith), simp length-set c.loop-i.invariant.2)

pub returns-clause-rows : goal.returns-clause-rows
returns-clause-rows c =
    let w = c.args.w in
    let e : c.loop-i.i ≡ w = omega arith in
    put_more zero_row (λ r. r) (open_J c.args.h w) c.loop-i.rows (w + w) c.plus-2.result (omega arith)
    (c.plus-2.ensures ∙ open_last c.args.h w c.loop-i.i c.loop-i.ys c.loop-i.invariant.0 e) (λ k lt. c.loop-i.invariant.1 k (omega arith))
