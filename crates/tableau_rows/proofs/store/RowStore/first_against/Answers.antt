use Rattle.std.proofs.Common.{◌≡◌, ◌-◌, true, false, ap, rules, tests}
use Rattle.std.proofs.lemmas.Iterator.{IsFirst-from_position, YieldsList-from_slice}
use Rattle.pauli.specs.Bits.{odd}
use Rattle.pauli.specs.Labels.{pairing}
use Rattle.tableau_rows.specs.declared.store.Pair.{Pair}
use Rattle.tableau_rows.specs.Held.{E_of}
use Rattle.tableau_rows.specs.Parts.{zero_pair}
use Rattle.tableau_rows.proofs.Questions.{used_at, first_is}
use Rattle.tableau_rows.proofs.store.RowStore.first_against.Goals as goal

pub returns : goal.returns
returns c =
    let s = c.args.self.now in
    let m = s.size - s.width in
    let ps = c.pairs.result.now in
    first_is c.args.b ps (E_of s) m c.pairs.ensures.len (λ i lt. ap (λ (p : Pair). p.stabilizer) (used_at s.pairs ps m c.pairs.ensures.rows zero_pair i lt))
    c.position.result
    (IsFirst-from_position _ _ c.position.result (λ (p : Pair). odd (pairing p.stabilizer.label c.args.b) ≡ true)
    (λ (p : Pair). odd (pairing p.stabilizer.label c.args.b) ≡ false) c.position.ensures.ran (YieldsList-from_slice ps cc)
    (λ x q k. search (rules, tests)) (λ x q k. search (rules, tests)))
