use Rattle.std.proofs.Common.{Ok, ℕ, List, length, drop, ap, ◌∙◌, arith, Bor, rules}
use Rattle.session.specs.Seen.{seen}
use Rattle.text.specs.Reading.{Hit}
use Rattle.circuit_text.specs.Lines.{said_text, SaidLaw, said}
use Rattle.circuit.specs.Lines.{Played}
use Rattle.circuit.proofs.Chains.{all_done, not_read, line_at, one_more, not_done, farther, goes_up}
use Rattle.circuit.proofs.play.play.Given.{Over}
use Rattle.circuit.proofs.play.play.Goals as goal
use Rattle.circuit.proofs.play.play.Goals.{In_ok-at}

pub returns-in_err-next : goal.returns-in_err-next
returns-in_err-next g c =
    goes_up
    (λ r. Played (seen g.P.ValueSheet.sheet g.S.CoinSource.coins c.args.session.now) 3 (drop c.args.reader.now.fields.at c.args.reader.now.fields.text.now) r
    (seen g.P.ValueSheet.sheet g.S.CoinSource.coins c.loop-next.session))
    c.from_residual.result c.in_err-next.field-0.0 c.from_residual.ensures.1
    (not_read _ _ _ _ _ _ c.loop-next.invariant.1 _ _ c.next.ensures.line _ c.at.ensures _ c.in_err-next.was)

pub returns-in_err-at : goal.returns-in_err-at
returns-in_err-at g c =
    goes_up
    (λ r. Played (seen g.P.ValueSheet.sheet g.S.CoinSource.coins c.args.session.now) 3 (drop c.args.reader.now.fields.at c.args.reader.now.fields.text.now) r
    (seen g.P.ValueSheet.sheet g.S.CoinSource.coins c.perform.new.session))
    c.from_residual-in_err-at.result c.in_err-at.field-0.0 c.from_residual-in_err-at.ensures.1
    (not_done _ _ _ _ _ _ c.loop-next.invariant.1 _ _ c.next.ensures.line _ c.at.ensures c.in-Some.next (c.in_ok-next.was ∙ ap Ok c.in-Some.is)
    _ _ c.perform.ensures.done _ c.at-in-Some.ensures _ c.in_err-at.was)

line_here : (g : Over) (c : In_ok-at g)
    → Hit said_text SaidLaw 10 c.loop-next.reader.fields.text.now c.loop-next.reader.fields.at (said c.in-Some.next) c.next.new.self.fields.at
line_here g c =
    line_at _ _ _ _ _ _ c.loop-next.invariant.1 _ _ c.next.ensures.line _ c.at.ensures c.in-Some.next (c.in_ok-next.was ∙ ap Ok c.in-Some.is)

pub overflow_add-line : goal.overflow_add-line
overflow_add-line g c =
    let h = line_here g c in
    let far = farther _ _ _ _ h in
    let w = h.within in
    let fits = c.next.ensures.fits in
    search rules

pub loop-next-smaller : goal.loop-next-smaller
loop-next-smaller g c =
    let h = line_here g c in
    omega (arith, farther _ _ _ _ h, h.within, ap (λ (x : Bor (List ℕ)). length x.now) c.next.ensures.text)

pub loop-next-preserved : goal.loop-next-preserved
loop-next-preserved g c =
    let before = c.loop-next.invariant in
    let h = line_here g c in
    let far = farther _ _ _ _ h in (
      c.next.ensures.text ∙ before.0,
      one_more _ _ _ _ _ _ before.1 _ _ c.next.ensures.line _ c.at.ensures c.in-Some.next (c.in_ok-next.was ∙ ap Ok c.in-Some.is)
          _ _ c.perform.ensures.done _ c.at-in-Some.ensures _ c.next.ensures.text (g.met.P.ValueSheet.lawful c.loop-next.session.point) c.in_ok-at.was,
      omega arith,
    )

pub returns : goal.returns
returns g c = all_done _ _ _ _ _ _ c.loop-next.invariant.1 _ _ c.next.ensures.line _ c.at.ensures (c.in_ok-next.was ∙ ap Ok c.in_default.is)
