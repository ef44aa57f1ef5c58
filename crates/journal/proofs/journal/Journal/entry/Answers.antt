use Rattle.std.proofs.Common.{◌≡◌, ◌-◌, ◌<◌, Some, arith}
use Rattle.std.specs.List.{slice_get}
use Rattle.std.proofs.lemmas.Option.{slice_get_read}
use Rattle.journal.proofs.Kept.{read_entry}
use Rattle.journal.proofs.journal.Journal.entry.Goals as goal

pub returns-clause-reading : goal.returns-clause-reading
returns-clause-reading c =
    let before = c.in_ok-before.before in
    let some : 0 < c.args.k = grind arith in
    let is : before ≡ c.args.k - 1 = grind arith in
    let there : slice_get c.args.self.now before ≡ Some c.in_ok-event.event.now = grind (arith, slice_get_read) in
    read_entry _ c.args.k before _ _ c.events-events.ensures.lawful some is there c.new.ensures
