use Rattle.std.proofs.Common.{◌≡◌, ℕ, ◌-◌, List, length, Ok, Err, sym, ap, ◌∙◌, subst, arith, Bor}
use Rattle.journal_lines.specs.declared.event.Event.{Event}
use Rattle.runs.specs.Readings.{readings}
use Rattle.runs.specs.Spent.{spent}
use Rattle.runs.specs.States.{State}
use Rattle.circuit.proofs.Chains.{goes_up}
use Rattle.circuit_run.specs.Begun.{Opened, Supplied}
use Rattle.circuit_run.specs.Runs.{Ran}
use Rattle.circuit_run.proofs.Playing.{not_begun, begun, stops_first, stops_second, started, played_of, coins_kept, ends}
use Rattle.circuit_run.proofs.run.run_into.Goals as goal

pub returns-in_err-reader : goal.returns-in_err-reader
returns-in_err-reader c =
    goes_up (λ r. Ran c.args.text.now c.args.journal.now r) _ c.in_err-reader.field-0.0 c.from_residual.ensures.1
    (subst (λ (es : List Event). Ran c.args.text.now es (Err c.in_err-reader.field-0.0)) (sym c.requires)
    (not_begun c.args.text.now _ _ _ _ c.over.ensures c.at.ensures c.in_err-reader.was))

pub returns-in_err-point : goal.returns-in_err-point
returns-in_err-point c =
    let b = begun c.args.text.now _ _ _ c.in_ok-reader.reader c.over.ensures c.at.ensures c.in_ok-reader.was in
    let e = c.in_err-point.field-0.0 in
    let told : Opened c.args.text.now 0 (Err e) c.open.new.reader.fields.at
    = subst (λ (i : ℕ). Opened c.args.text.now i (Err e) c.open.new.reader.fields.at) b.1.1
    (subst (λ (x : Bor (List ℕ)). Opened x.now c.in_ok-reader.reader.fields.at (Err e) c.open.new.reader.fields.at) b.1.0 c.in_err-point.ensures.line) in
    goes_up (λ r. Ran c.args.text.now c.args.journal.now r) _ e c.from_residual-in_err-point.ensures.1
    (subst (λ (es : List Event). Ran c.args.text.now es (Err e)) (sym c.requires) (stops_first c.args.text.now b.0 e c.open.new.reader.fields.at told))

pub returns-in_err-source : goal.returns-in_err-source
returns-in_err-source c =
    let b = begun c.args.text.now _ _ _ c.in_ok-reader.reader c.over.ensures c.at.ensures c.in_ok-reader.was in
    let e = c.in_err-source.field-0.0 in
    let first : Opened c.args.text.now 0 (Ok c.in_ok-point.point) c.open.new.reader.fields.at
    = subst (λ (i : ℕ). Opened c.args.text.now i (Ok c.in_ok-point.point) c.open.new.reader.fields.at) b.1.1
    (subst (λ (x : Bor (List ℕ)). Opened x.now c.in_ok-reader.reader.fields.at (Ok c.in_ok-point.point) c.open.new.reader.fields.at) b.1.0
    c.in_ok-point.ensures.line) in
    let told : Supplied c.args.text.now c.open.new.reader.fields.at (Err e) c.supply.new.reader.fields.at
    = subst (λ (x : Bor (List ℕ)). Supplied x.now c.open.new.reader.fields.at (Err e) c.supply.new.reader.fields.at) (c.open.ensures.text ∙ b.1.0)
    c.in_err-source.ensures.line in
    goes_up (λ r. Ran c.args.text.now c.args.journal.now r) _ e c.from_residual-in_err-source.ensures.1
    (subst (λ (es : List Event). Ran c.args.text.now es (Err e)) (sym c.requires)
    (stops_second c.args.text.now b.0 first.0 _ first.1 first.2 e c.supply.new.reader.fields.at told))

pub overflow_sub-finish : goal.overflow_sub-finish
overflow_sub-finish c =
    let b = begun c.args.text.now _ _ _ c.in_ok-reader.reader c.over.ensures c.at.ensures c.in_ok-reader.was in
    let S = started c.args.text c.in_ok-reader.reader.fields.text c.open.new.reader.fields.text _ _ _ c.in_ok-point.point c.in_ok-source.source _
    b.0 b.1.0 b.1.1 c.open.ensures.text c.in_ok-point.ensures.line c.in_ok-source.ensures.line c.open-session.ensures.seen in
    let p = played_of c.args.text c.supply.new.reader.fields.text _ _ _ _ (c.supply.ensures.text ∙ c.open.ensures.text ∙ b.1.0) c.play-played.ensures in
    omega (arith, coins_kept _ _ _ S _ _ p, ap (λ (s : State). length s.coins) c.open-session.ensures.seen, c.left-coins.ensures, c.coins_left.ensures)

pub returns-in_err-played : goal.returns-in_err-played
returns-in_err-played c =
    let b = begun c.args.text.now _ _ _ c.in_ok-reader.reader c.over.ensures c.at.ensures c.in_ok-reader.was in
    let S = started c.args.text c.in_ok-reader.reader.fields.text c.open.new.reader.fields.text _ _ _ c.in_ok-point.point c.in_ok-source.source _
    b.0 b.1.0 b.1.1 c.open.ensures.text c.in_ok-point.ensures.line c.in_ok-source.ensures.line c.open-session.ensures.seen in
    let p = played_of c.args.text c.supply.new.reader.fields.text _ _ _ _ (c.supply.ensures.text ∙ c.open.ensures.text ∙ b.1.0) c.play-played.ensures in
    let e = c.in_err-played.field-0.0 in
    goes_up (λ r. Ran c.args.text.now c.into_parts-entries.result.2 r) _ e c.from_residual-in_err-played.ensures.1
    (ends _ _ _ S _ _ p c.into_parts-entries.result.2 (Err e) (sym c.in_err-played.was) (c.into_parts-entries.ensures.2) tt)

pub returns : goal.returns
returns c =
    let b = begun c.args.text.now _ _ _ c.in_ok-reader.reader c.over.ensures c.at.ensures c.in_ok-reader.was in
    let S = started c.args.text c.in_ok-reader.reader.fields.text c.open.new.reader.fields.text _ _ _ c.in_ok-point.point c.in_ok-source.source _
    b.0 b.1.0 b.1.1 c.open.ensures.text c.in_ok-point.ensures.line c.in_ok-source.ensures.line c.open-session.ensures.seen in
    let p = played_of c.args.text c.supply.new.reader.fields.text _ _ _ _ (c.supply.ensures.text ∙ c.open.ensures.text ∙ b.1.0) c.play-played.ensures in
    let spends : c.left-coins.result - c.coins_left.result ≡ length (spent (readings c.play-played.new.session.journal))
    = omega (arith, coins_kept _ _ _ S _ _ p, ap (λ (s : State). length s.coins) c.open-session.ensures.seen, c.left-coins.ensures, c.coins_left.ensures) in
    ends _ _ _ S _ _ p c.into_parts-entries.result.2 (Ok (record { entries = c.entries.result; coins = c.left-coins.result - c.coins_left.result; width = c.width.result }))
    (sym c.in_ok-played.was) (c.into_parts-entries.ensures.2) (c.entries.ensures.count, spends, c.width.ensures)
