use Rattle.std.proofs.Common.{◌≡◌, ℕ, ◌<◌, Bool, ◌&&◌, length, take, ◌∙◌, ap, ap₂, zero-add, get_or-take, length-take-le, arith, rules, tests}
use Rattle.std.specs.List.{enumerate_from}
use Rattle.std.proofs.lemmas.Iterator.{YieldsList-from_slice}
use Rattle.std.proofs.lemmas.Iterator.Consumers.{YieldsList-from_enumerate}
use Rattle.std.proofs.lemmas.Iterator.Search.{all_from_yields_List}
use Rattle.std.proofs.lemmas.List.FromFn.{get_or-enumerate_from, length-enumerate_from}
use mathlib.Core.Bool.{beq}
use Rattle.pauli.specs.declared.row.Row.{Row}
use Rattle.pauli.specs.Bits.{odd}
use Rattle.pauli.specs.Labels.{pairing}
use Rattle.pauli.specs.Rows.{zero_row}
use Rattle.tableau_laws.specs.Patterns.{meets}
use Rattle.tableau_rows.specs.Parts.{row_in}
use Rattle.tableau_rows.proofs.Questions.{all_is}
use Rattle.tableau_rows.proofs.store.pattern.place_ok.Goals as goal

pub returns-then-fits : goal.returns-then-fits
returns-then-fits c =
    let i = c.args.i in
    let rows = take i c.args.rows.now in
    let len : length rows ≡ i = length-take-le i c.args.rows.now (omega arith) in
    let stands : ℕ → Row → Bool = λ j r. beq (odd (pairing r.label (row_in c.args.rows.now i).label)) (meets c.args.pairs j i) in
    let pass : ℕ × Row → Bool = λ x. stands x.0 x.1 in
    ap₂ ◌&&◌ c.if-fits.ensures
    (all_from_yields_List pass _ _ c.all.result c.all.ensures.ran (YieldsList-from_enumerate (YieldsList-from_slice rows cc) cc)
    (λ x t q k. search (rules, tests))
    ∙ all_is pass (0, zero_row) (enumerate_from 0 rows) i (λ j. stands j (row_in c.args.rows.now j)) (length-enumerate_from 0 rows ∙ len)
    (λ j lt.
    let less : j < length rows = omega arith in
    ap pass (get_or-enumerate_from 0 rows j (0, zero_row) less) ∙ ap₂ stands (zero-add j) (get_or-take i c.args.rows.now j zero_row lt)))
