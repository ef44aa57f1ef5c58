use Rattle.std.proofs.Common.{◌+◌, not, take, ◌∙◌, ap, arith, rules, tests, Option}
use Rattle.std.specs.Option.{unwrap_or}
use Rattle.std.proofs.lemmas.Iterator.Adapters.{YieldsList-from_rev_slice}
use Rattle.std.proofs.lemmas.Iterator.Search.{find_from_yields_List}
use Rattle.pauli.specs.declared.row.Row.{Row}
use Rattle.pauli.specs.Bits.{odd}
use Rattle.pauli.specs.Labels.{pairing}
use Rattle.pauli.specs.Rows.{zero_row}
use Rattle.tableau_rows.proofs.Questions.{fellow_is}
use Rattle.tableau_rows.proofs.store.RowStore.fellow.Goals as goal

pub returns : goal.returns
returns c =
    let s = c.args.self.now in
    let k = s.width + s.width + 1 in
    c.unwrap_or.ensures
    ∙ ap (λ (o : Option Row). unwrap_or o zero_row)
    (c.copied.ensures
    ∙ find_from_yields_List (λ (r : Row). not (odd (pairing r.label c.args.b))) _ _ c.find.result c.find.ensures.ran
    (YieldsList-from_rev_slice (take k s.jordan_wigner) cc) (λ x t q h. search (rules, tests)))
    ∙ fellow_is c.args.b s.jordan_wigner k (omega (arith, s.few, s.narrow, s.room))
