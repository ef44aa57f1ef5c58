use Rattle.std.proofs.Common.{length, ap, ◌∙◌, refl, zero-add, arith, rules, tests}
use Rattle.std.specs.List.{range_with_len}
use Rattle.std.proofs.lemmas.Iterator.{YieldsList-from_range}
use Rattle.std.proofs.lemmas.Iterator.Search.{all_from_yields_List}
use Rattle.std.proofs.lemmas.List.FromFn.{get_or-range_with_len, length-range_with_len}
use Rattle.tableau_laws.specs.Patterns.{place_ok}
use Rattle.tableau_rows.specs.Parts.{row_in}
use Rattle.tableau_rows.proofs.Questions.{all_is}
use Rattle.tableau_rows.proofs.store.pattern.places_ok.Goals as goal

pub returns : goal.returns
returns c =
    let n = length c.args.rows.now in
    let ok = place_ok c.args.n c.args.pairs (row_in c.args.rows.now) in
    all_from_yields_List ok _ _ c.all.result c.all.ensures.ran (YieldsList-from_range 0 n n refl (omega arith)) (λ x t q k. search (rules, tests))
    ∙ all_is ok 0 (range_with_len 0 n) n ok (length-range_with_len 0 n) (λ i lt. ap ok (get_or-range_with_len 0 n i 0 lt ∙ zero-add i))
