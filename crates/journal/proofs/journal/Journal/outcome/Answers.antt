use Rattle.std.proofs.Common.{◌≡◌, ◌-◌, ◌<◌, ◌∙◌, arith, rules, tests}
use Rattle.std.proofs.lemmas.Iterator.{YieldsList-from_slice}
use Rattle.std.proofs.lemmas.Iterator.Consumers.{YieldsList-from_filter_map, nth_from_yields_List}
use Rattle.journal.specs.Journals.{outcome_of}
use Rattle.journal.proofs.Kept.{kth_answer}
use Rattle.journal.proofs.journal.Journal.outcome.Goals as goal

pub returns : goal.returns
returns c =
    let before = c.in_ok-before.before in
    let some : 0 < c.args.k = grind arith in
    let is : before ≡ c.args.k - 1 = grind arith in
    c.ok_or-2.ensures.value
    ∙ kth_answer _ c.args.k before _ c.nth.result some is (nth_from_yields_List c.nth.result c.nth.new.self before c.nth.ensures.ran
    (YieldsList-from_filter_map _ outcome_of (YieldsList-from_slice c.args.self.now cc) c.filter_map-outcomes.ensures.closure (λ x r q k. search (rules, tests))))
