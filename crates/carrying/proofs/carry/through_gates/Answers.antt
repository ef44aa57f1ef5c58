use Rattle.std.proofs.Common.{ℕ, List, length, ap, ◌∙◌, refl, arith, Bor}
use Rattle.carrying.proofs.Steps.{one_more, farther, all_done, stopped}
use Rattle.carrying.proofs.carry.through_gates.Goals as goal

pub loop-carrier-smaller : goal.loop-carrier-smaller
loop-carrier-smaller c =
    let step = c.in_default.ensures.done in
    let far = farther _ _ _ _ _ _ step.2 c.loop-carrier-test.true in
    omega (arith, step.2.inside, ap (λ (x : Bor (List ℕ)). length x.now) step.1)

pub loop-carrier-preserved : goal.loop-carrier-preserved
loop-carrier-preserved c =
    let step = c.in_default.ensures.done in
    let far = farther _ _ _ _ _ _ step.2 c.loop-carrier-test.true in
    let before = c.loop-carrier.invariant in
    (step.0 ∙ before.0, step.1 ∙ before.1, one_more _ _ _ _ _ _ step c.in_ok-push.ensures.items before.2, omega arith)

pub returns-in-Err : goal.returns-in-Err
returns-in-Err c = (refl, stopped _ _ _ _ c.loop-carrier.invariant.2 _ c.step.new.self c.loop-carrier-test.true c.in-Err.ensures.done)

pub returns : goal.returns
returns c = (refl, all_done _ _ _ _ c.loop-carrier.invariant.2 c.loop-carrier-test.false)
