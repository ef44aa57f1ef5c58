-- One more call, and the end of the list.
use Rattle.std.proofs.Common.{◌≡◌, ℕ, ◌+◌, ◌<◌, min, List, length, get_or, take, drop, sym, ap, ◌∙◌, arith}
use Rattle.std.proofs.lemmas.Iterator.{YieldsList-from_slice, YieldsList-from_take}
use Rattle.std.proofs.lemmas.Iterator.Consumers.{YieldsList-from_enumerate, YieldsList-turn, YieldsList-end}
use Rattle.std.proofs.lemmas.List.{drop-drop, drop-set-lt, length_push, length-take, get_or-take}
use Rattle.std.proofs.lemmas.List.FromFn.{length-enumerate_from, get_or-enumerate_from}
use Rattle.std.specs.List.{enumerate_from}
use Rattle.runs.specs.States.{State}
use Rattle.runs.proofs.Reached.{reached_next, played}
use Rattle.session.specs.Room.{made}
use Rattle.session.specs.Seen.{seen}
use Rattle.session.proofs.playing.play.Goals as goal

turns : {A : Type 0} (m : ℕ) (xs : List A) → length (take m (enumerate_from 0 xs)) ≡ min m (length xs)
turns m xs = length-take m (enumerate_from 0 xs) ∙ ap (min m) (length-enumerate_from 0 xs)

-- the element of turn n, and its number
turn : {A : Type 0} (m : ℕ) (xs : List A) (n i : ℕ) (x : A) → n < length (take m (enumerate_from 0 xs)) → (i, x) ≡ get_or (take m (enumerate_from 0 xs)) n (i, x)
    → (n < m) × (n < length xs) × (i ≡ n) × (x ≡ get_or xs n x)
turn m xs n i x h e =
    let k = turns m xs in
    let p = e ∙ get_or-take m (enumerate_from 0 xs) n (i, x) (omega arith) ∙ get_or-enumerate_from 0 xs n (i, x) (omega arith) in
    (omega arith, omega arith, ap (λ q. q.0) p ∙ omega arith, ap (λ q. q.1) p)

pub loop-i-preserved : goal.loop-i-preserved
loop-i-preserved g c =
    let see = seen g.P.ValueSheet.sheet g.S.CoinSource.coins in
    let n = length c.loop-i.yielded in
    let t = YieldsList-turn (YieldsList-from_take (length c.args.answers.now) (YieldsList-from_enumerate (YieldsList-from_slice c.args.calls.now cc) (cc)) (cc))
    c.loop-i.yielded _ c.loop-i.yielded_by _ _ (c.in-Some.i, c.in-Some.call) c.in-Some.is c.next.ensures.steps in
    let at = turn _ c.args.calls.now n c.in-Some.i c.in-Some.call.now t.0 t.1 in
    rw (length_push c.loop-i.yielded (c.in-Some.i, c.in-Some.call), at.2) (
      reached_next (see c.open-session.result) c.args.calls.now c.loop-i.answers n (see c.loop-i.session) (see c.call.new.self) _ c.call.result at.1 (omega arith)
          at.3 c.loop-i.invariant.0 (g.met.P.ValueSheet.lawful c.loop-i.session.point) c.call.ensures.step,
      drop-set-lt (n + 1) c.loop-i.answers n c.call.result (omega arith)
          ∙ sym (drop-drop 1 n c.loop-i.answers) ∙ ap (drop 1) c.loop-i.invariant.1 ∙ drop-drop 1 n c.args.answers.now,
    )

pub returns-clause-played : goal.returns-clause-played
returns-clause-played g c =
    let end = YieldsList-end (YieldsList-from_take (length c.args.answers.now) (YieldsList-from_enumerate (YieldsList-from_slice c.args.calls.now cc) (cc)) (cc))
    c.loop-i.yielded _ c.loop-i.yielded_by _ _ c.in-None.is c.next.ensures.steps in
    let e : length c.loop-i.yielded ≡ made c.args.calls.now c.args.answers.now = omega (arith, end.1, turns (length c.args.answers.now) c.args.calls.now) in
    let opened = c.open-session.ensures.seen in
    let run = played _ _ _ _ (ap (λ (s : State). s.events) opened) c.loop-i.invariant.0 in
    rw (opened, e) at run
