use Rattle.std.proofs.Common.{refl, sym, ◌∙◌}
use Rattle.text.specs.Ends.{end_byte}
use Rattle.text.specs.Texts.{is_coin, Coins}
use Rattle.text.proofs.Places.{end_low}
use Rattle.text.proofs.Runs.{no_coin, run_none, run_shows}
use Rattle.text.proofs.read.Fields.coins.Goals as goal

pub returns-in-None : goal.returns-in-None
returns-in-None c =
    let out = no_coin (end_byte c.args.end) (end_low c.args.end) in
    (refl, refl, run_none is_coin Coins (λ l law. law.each) _ out _ _ _ c.rest.ensures.is (sym c.in-None.is ∙ c.coins_first.ensures))

pub returns-in-Some : goal.returns-in-Some
returns-in-Some c =
    let out = no_coin (end_byte c.args.end) (end_low c.args.end) in
    run_shows is_coin Coins (λ l law. law.each) _ out _ _ _ _ _ c.rest.ensures.is (sym c.in-Some.is ∙ c.coins_first.ensures) (λ l n each. record { each = each }) c.bytes.ensures
