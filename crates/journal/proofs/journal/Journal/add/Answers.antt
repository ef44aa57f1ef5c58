use Rattle.std.proofs.Common.{◌<◌, arith}
use Rattle.journal.proofs.Kept.{length_kept, kept_more}
use Rattle.journal.proofs.journal.Journal.add.Goals as goal

pub invariant_of-self : goal.invariant_of-self
invariant_of-self c =
    let n = length_kept _ _ _ c.self.invariant c.self.view_is in
    let low : c.self.inside.len < 512 = grind arith in
    kept_more _ _ _ c.self.invariant c.self.view_is c.args.event low (grind arith)
