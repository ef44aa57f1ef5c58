use Rattle.std.proofs.Common.{◌≡◌, ◌<◌, length, rules}
use Rattle.carrying.specs.Carrying.{too_long}
use Rattle.carrying.proofs.Steps.{refused_whole, starts}
use Rattle.carrying.proofs.carry.start.Goals as goal

pub returns-then-text-gt-MOST_BYTES : goal.returns-then-text-gt-MOST_BYTES
returns-then-text-gt-MOST_BYTES c = rw c.at.ensures (too_long c.args.text.now c.if-text-gt-MOST_BYTES.true)

pub returns-then-is_empty : goal.returns-then-is_empty
returns-then-is_empty c =
    let none : length c.args.text.now ≡ 0 = search rules in
    rw c.at-then-is_empty.ensures (refused_whole c.args.text.now none)

pub returns : goal.returns
returns c =
    let some : 0 < length c.args.text.now = search rules in
    starts _ _ _ c.if-text-gt-MOST_BYTES.false some c.of.ensures c.at-2.ensures
