use Rattle.std.proofs.Common.{refl, sym, ◌∙◌}
use Rattle.text.proofs.Runs.{letters_none, letters_shown}
use Rattle.text.proofs.read.Fields.letters.Goals as goal

pub returns-in-None : goal.returns-in-None
returns-in-None c = (refl, refl, letters_none c.args.end c.args.self.now c.rest.result c.rest.ensures (sym c.in-None.is ∙ c.letters_first.ensures))

pub returns-in-Some : goal.returns-in-Some
returns-in-Some c = letters_shown c.args.end c.args.self.now c.rest.result c.rest.ensures _ _ _ (sym c.in-Some.is ∙ c.letters_first.ensures) c.bytes.ensures
