use Rattle.std.proofs.Common.{◌≡◌, ◌+◌, ◌-◌, ◌/◌, ◌<◌, ◌≤◌, drop, length, refl, ap, ◌∙◌, arith, length-drop, length-take-le}
use Rattle.pauli.specs.Rows.{row, times}
use Rattle.tableau_rows.proofs.Narrow.{three_from}
use Rattle.tableau_rows.proofs.store.RowStore.narrow.Goals as goal

pub returns-clause-rows : goal.returns-clause-rows
returns-clause-rows c =
    let s = c.args.self.now in
    let ls = c.part-found.new.turned in
    let some : 0 < length ls = omega arith in
    let old = length c.pairs-old.result.now in
    let more = c.part-found.result / 2 in
    let few : more ≤ s.width = omega (arith, c.part-found.ensures.few) in
    let room : old + more - old ≤ length (drop old s.pairs) = simp length-drop (omega (arith, s.few, s.narrow, s.room)) in
    let whole : old + more - old ≡ more = omega arith in
    let made : length c.pair_up.new.pairs ≡ more
    = c.pair_up.auto.pairs ∙ length-take-le (old + more - old) (drop old s.pairs) room ∙ whole in
    λ t e.
    three_from (s.size - s.width) s.width t c.part-found.result c.args.coins s.pairs c.pair_up.new.pairs _ s.jordan_wigner c.part-found.new.rest ls
    c.args.b c.args.value (omega (arith, s.few, s.room)) s.size _ _ _ c.jordan_wigner.result.now c.times-first.result refl refl refl c.pairs-old.ensures.len
    s.narrow some made c.jordan_wigner.ensures.rows c.jordan_wigner.ensures.len
    (c.times-first.ensures ∙ ap (times (row c.args.b c.args.value)) c.picked.ensures) c.part-found.ensures.is c.pair_up.ensures e
