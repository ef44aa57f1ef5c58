use Rattle.std.proofs.Common.{◌+◌, ◌≤◌, true, false, sym, ap, ◌∙◌, arith, rules}
use Rattle.pauli.specs.declared.row.Row.{Row}
use Rattle.pauli.specs.Bits.{odd}
use Rattle.pauli.specs.Labels.{pairing}
use Rattle.pauli.specs.Rows.{zero_row}
use Rattle.tableau_laws.specs.Tableaux.{labels}
use Rattle.tableau_rows.specs.Held.{J_of}
use Rattle.tableau_rows.proofs.Questions.{used_at, against_more, against_at_most}
use Rattle.tableau_rows.proofs.store.RowStore.jordan_wigner_against.Goals as goal
use Rattle.tableau_rows.proofs.store.RowStore.jordan_wigner_against.Goals.{then-anticommutes, else-anticommutes}

pub overflow_add-count : goal.overflow_add-count
overflow_add-count c =
    let few = against_at_most (labels (J_of c.args.self.now)) c.args.b c.loop-row.row-index in
    let h : c.loop-row.count ≤ 129 = omega (arith, c.args.self.now.few, c.args.self.now.narrow) in
    search rules

pub loop-row-preserved : goal.loop-row-preserved
loop-row-preserved c =
    let s = c.args.self.now in
    let j = c.loop-row.row-index in
    let here = used_at s.jordan_wigner _ (s.width + s.width + 1) c.jordan_wigner-row-items.ensures.rows zero_row j (omega arith) in
    let test = ap (λ (r : Row). odd (pairing r.label c.args.b)) (sym here) in
    let more = against_more (labels (J_of s)) c.args.b j in
    elim c.if-anticommutes.branch [
      | then-anticommutes w ↦ omega (arith, more true (test ∙ sym w.if-anticommutes.ensures), w.count-is, c.loop-row.invariant)
      | else-anticommutes w ↦ omega (arith, more false (test ∙ sym w.if-anticommutes.ensures), w.count-is, c.loop-row.invariant)
    ]
