-- Too few coins change nothing; what is recorded is lawful; and what the point did is what the look foretold.
use Rattle.std.proofs.Common.{◌≡◌, ◌<◌, None, length, refl, inr, rules, arith}
use Rattle.std.proofs.lemmas.Result.{err_from_is_err_and}
use Rattle.pauli.specs.Labels.{fits}
use Rattle.pauli.specs.declared.fault.Fault.TheVariants.{TooFewCoins}
use Rattle.session.proofs.Lawful.{allowed, too_few, as_looked, measured_right}
use Rattle.session.proofs.session.Session.measure.Goals as goal

pub returns-in_err-coins-clause-step : goal.returns-in_err-coins-clause-step
returns-in_err-coins-clause-step g c =
    let me = c.args.self.now in
    let s = g.P.ValueSheet.sheet me.point in
    let look = c.in_ok-case.ensures in
    let room : length me.journal < 512 = search rules in
    let none : c.draw_word.result ≡ None = c.in_err-coins.ensures.ok_part in
    let drawn = c.draw_word.ensures.drawn in
    let fault : c.in_err-coins.field-0.0 ≡ TooFewCoins = grind arith in
    let same = c.draw_word.ensures.kept none in
    let p = err_from_is_err_and c.from_residual-in_err-coins.result c.from_residual-in_err-coins.ensures.1 in
    rw (p.1, p.2, fault, same)
    (inr (allowed (fits s.n c.args.label) (length me.journal) look.0 room, (c.in_ok-case.case, c.in_ok-case.count, look.1, too_few s (g.met.P.ValueSheet.lawful me.point) c.args.label c.in_ok-case.case c.in_ok-case.count (length (g.S.CoinSource.coins me.source)) look.1 (search rules)), refl), refl)

pub unwrap-requires : goal.unwrap-requires
unwrap-requires g c =
    let me = c.args.self.now in
    let s = g.P.ValueSheet.sheet me.point in
    let look = c.in_ok-case.ensures in
    let word = c.draw_word.ensures.drawn in
    let drawn = rw c.in_ok-coins.ensures.ok_part at word in
    let size = c.size-size.ensures in
    let sound = measured_right s (g.met.P.ValueSheet.lawful me.point) c.args.label c.args.sign c.in_ok-case.case c.in_ok-case.count c.in_ok-coins.coins c.in_ok-outcome.outcome _
    look.0 look.1 drawn.1
    (as_looked s (g.met.P.ValueSheet.lawful me.point) c.args.label c.args.sign c.in_ok-coins.coins _ _ _ _ look.1 c.in_ok-outcome.ensures.done.1) in
    search rules

pub returns-clause-step : goal.returns-clause-step
returns-clause-step g c =
    let me = c.args.self.now in
    let s = g.P.ValueSheet.sheet me.point in
    let L = g.met.P.ValueSheet.lawful me.point in
    let look = c.in_ok-case.ensures in
    let word = c.draw_word.ensures.drawn in
    let drawn = rw c.in_ok-coins.ensures.ok_part at word in
    let size = c.size-size.ensures in
    let room : length me.journal < 512 = search rules in (
      allowed (fits s.n c.args.label) (length me.journal) look.0 room,
      record {
        case = c.in_ok-case.case;
        count = c.in_ok-case.count;
        word = c.in_ok-coins.coins;
        looked = look.1;
        short = drawn.1;
        drawn = drawn.2;
        effect = as_looked s L c.args.label c.args.sign c.in_ok-coins.coins _ _ _ _ look.1 c.in_ok-outcome.ensures.done.1;
        events = search rules;
      },
    )
