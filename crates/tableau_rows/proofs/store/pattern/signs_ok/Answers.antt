use Rattle.std.proofs.Common.{◌≡◌, ◌+◌, Bool, true, not, ◌&&◌, ◌||◌, ltb, take, sym, ap, ◌∙◌, get_or-take, length-take-le, lt-ltb, le-ltb, arith, rules, tests}
use Rattle.std.proofs.lemmas.Iterator.{YieldsList-from_slice}
use Rattle.std.proofs.lemmas.Iterator.Search.{all_from_yields_List}
use Rattle.pauli.specs.declared.row.Row.{Row}
use Rattle.pauli.specs.Rows.{zero_row}
use Rattle.tableau_laws.specs.Places.{all_below}
use Rattle.tableau_rows.specs.Parts.{row_in}
use Rattle.tableau_rows.proofs.Questions.{all_is, and_true}
use Rattle.tableau_rows.proofs.store.pattern.signs_ok.Goals as goal
use Rattle.tableau_rows.proofs.store.pattern.signs_ok.Goals.{then-width-gt0, else-width-gt0}

pub returns-then-last : goal.returns-then-last
returns-then-last c =
    let m = c.args.pairs in
    let rows = c.args.rows.now in
    let plus : Row → Bool = λ r. not r.sign in
    let all : Bool = all_below m (λ i. plus (row_in rows i)) in
    let last : Bool = plus (row_in rows (m + m)) in
    let alone : (ltb 0 c.args.width || last) ≡ true = elim c.if-width-gt0.branch [
      | then-width-gt0 w ↦ ap (λ (q : Bool). q || last) (lt-ltb 0 c.args.width w.if-width-gt0.true)
      | else-width-gt0 w ↦ ap (λ (q : Bool). q || last) (le-ltb 0 c.args.width w.if-width-gt0.false) ∙ sym w.last-is ∙ c.if-last.true
    ] in
    all_from_yields_List plus _ _ c.all.result c.all.ensures.ran (YieldsList-from_slice (take m rows) cc) (λ x t q k. search (rules, tests))
    ∙ all_is plus zero_row (take m rows) m (λ i. plus (row_in rows i)) (length-take-le m rows (omega arith)) (λ i lt. ap plus (get_or-take m rows i zero_row lt))
    ∙ sym (ap (λ (q : Bool). all && q) alone ∙ and_true all)
