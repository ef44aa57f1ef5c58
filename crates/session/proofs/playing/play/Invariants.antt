-- After some calls: a run of these calls and answers, and the other answers as they were.
use Rattle.std.proofs.Common.{◌≡◌, take, drop, length}
use Rattle.runs.proofs.Reached.{Reached}
use Rattle.session.specs.Seen.{seen}
use Rattle.session.proofs.playing.play.Given as goal

abbrev pub invariant-loop-i : goal.invariant-loop-i
invariant-loop-i g l =
    let see = seen g.P.ValueSheet.sheet g.S.CoinSource.coins in
    let n = length l.yielded in
    Reached (see l.initial.session) (take n l.calls) (take n l.answers) (see l.session)
    × (drop n l.answers ≡ drop n l.initial.answers)
