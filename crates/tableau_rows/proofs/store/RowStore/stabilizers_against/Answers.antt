use Rattle.std.proofs.Common.{◌-◌, ◌≤◌, true, false, sym, ap, ◌∙◌, arith, rules}
use Rattle.pauli.specs.Bits.{odd}
use Rattle.pauli.specs.Labels.{pairing}
use Rattle.tableau_laws.specs.Tableaux.{labels}
use Rattle.tableau_rows.specs.declared.store.Pair.{Pair}
use Rattle.tableau_rows.specs.Held.{E_of}
use Rattle.tableau_rows.specs.Parts.{zero_pair}
use Rattle.tableau_rows.proofs.Questions.{used_at, against_more, against_at_most}
use Rattle.tableau_rows.proofs.store.RowStore.stabilizers_against.Goals as goal
use Rattle.tableau_rows.proofs.store.RowStore.stabilizers_against.Goals.{then-anticommutes, else-anticommutes}

pub overflow_add-count : goal.overflow_add-count
overflow_add-count c =
    let few = against_at_most (labels (E_of c.args.self.now)) c.args.b c.loop-pair.pair-index in
    let h : c.loop-pair.count ≤ 64 = omega (arith, c.args.self.now.few) in
    search rules

pub loop-pair-preserved : goal.loop-pair-preserved
loop-pair-preserved c =
    let s = c.args.self.now in
    let j = c.loop-pair.pair-index in
    let here = used_at s.pairs _ (s.size - s.width) c.pairs-pair-items.ensures.rows zero_pair j (omega arith) in
    let test = ap (λ (p : Pair). odd (pairing p.stabilizer.label c.args.b)) (sym here) in
    let more = against_more (labels (E_of s)) c.args.b j in
    elim c.if-anticommutes.branch [
      | then-anticommutes w ↦ omega (arith, more true (test ∙ sym w.if-anticommutes.ensures), w.count-is, c.loop-pair.invariant)
      | else-anticommutes w ↦ omega (arith, more false (test ∙ sym w.if-anticommutes.ensures), w.count-is, c.loop-pair.invariant)
    ]
