use Rattle.std.proofs.Common.{refl, ◌∙◌}
use Rattle.text.proofs.Places.{end_some}
use Rattle.text.proofs.Fields.{hit_byte}
use Rattle.text.proofs.read.Fields.byte.Goals as goal

pub returns-in-len2-up : goal.returns-in-len2-up
returns-in-len2-up c = (refl, hit_byte _ _ _ _ (end_some c.args.end) c.rest.ensures.is (c.if-stop-byte.true ∙ c.byte.ensures))
