use Rattle.text.proofs.Writing.{next}
use Rattle.text.proofs.write.Writer.put_next.Goals as goal

pub returns : goal.returns
returns c = next c.put.ensures c.put_number.ensures
