-- What is written to a part of the answer's buffer.
use Rattle.std.proofs.Common.{Ok, min, rules}
use Rattle.runs.specs.Readings.{blank}
use Rattle.runs.proofs.Readings.{read_part}
use Rattle.session.proofs.session.Session.read_line.Goals as goal

pub returns : goal.returns
returns g c =
    read_part _ c.args.entry (min c.args.room 144) c.min.result blank c.read.new.out (Ok c.in_ok-length.length) (search rules) (search rules) c.read.auto.out c.in_ok-length.ensures.line
