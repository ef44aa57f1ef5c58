use Rattle.std.proofs.Common.{◌<◌, length, take, drop, refl, arith, length-take-le}
use Rattle.tableau_rows.specs.Parts.{Changes}
use Rattle.tableau_rows.proofs.Passes.{here, done_more, rest_more, done_whole}
use Rattle.tableau_rows.proofs.store.passes.each.Goals as goal

pub loop-place-preserved : goal.loop-place-preserved
loop-place-preserved g c =
    let xs = take c.args.used.end c.args.places.now in
    let ys = c.loop-place.place-items in
    let n = c.loop-place.place-index in
    let P = Changes (goal.F-post g c.args.change) in
    let rest = c.loop-place.invariant.1 in
    let lt : n < length ys = omega arith in (
      done_more P xs ys n rest c.change.new.arg2 lt c.loop-place.invariant.0
          (λ d. record { shown = _; shows = here P xs ys n rest _ d lt; left = _; leaves = refl; met = c.change.ensures }),
      rest_more P xs ys n rest c.change.new.arg2,
    )

pub returns : goal.returns
returns g c =
    done_whole (Changes (goal.F-post g c.args.change)) c.args.places.now c.loop-place.place-items (drop c.args.used.end c.args.places.now) c.args.used.end
    c.requires.room c.loop-place.auto.place-items (λ d i lt. c.loop-place.invariant.0 d i (omega (arith, length-take-le c.args.used.end c.args.places.now c.requires.room)))
