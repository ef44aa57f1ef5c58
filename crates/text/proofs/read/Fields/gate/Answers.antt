use Rattle.std.proofs.Common.{rules}
use Rattle.text.proofs.Places.{passed}
use Rattle.text.proofs.Gates.{NotCx, turn_hit, turn_miss}
use Rattle.text.proofs.read.Fields.gate.Goals as goal
use Rattle.text.proofs.read.Fields.gate.Goals.{then-rest-lt3, else-rest-lt3+in-67+in-88+in_default-1, else-rest-lt3+in-67+in_default-1, else-rest-lt3+in_default-1}

pub returns-in_err-gate : goal.returns-in_err-gate
returns-in_err-gate c =
    let other : NotCx c.rest.result.now = elim c.if-rest-lt3.branch [
      | then-rest-lt3 w ↦ λ l x y z. search rules
      | else-rest-lt3+in-67+in-88+in_default-1 w ↦ λ l x y z. search rules
      | else-rest-lt3+in-67+in_default-1 w ↦ λ l x y z. search rules
      | else-rest-lt3+in_default-1 w ↦ λ l x y z. search rules
    ] in
    let h = c.in_err-gate.ensures in
    passed _ _ _ _ _ _ _ c.from_residual-in_err-gate.ensures.1 h.0 h.1 (turn_miss _ _ _ _ c.rest.ensures.is other h.2)

pub returns : goal.returns
returns c =
    let other : NotCx c.rest.result.now = elim c.if-rest-lt3.branch [
      | then-rest-lt3 w ↦ λ l x y z. search rules
      | else-rest-lt3+in-67+in-88+in_default-1 w ↦ λ l x y z. search rules
      | else-rest-lt3+in-67+in_default-1 w ↦ λ l x y z. search rules
      | else-rest-lt3+in_default-1 w ↦ λ l x y z. search rules
    ] in
    let h = c.in_ok-gate.ensures in
    (h.0, turn_hit _ _ _ _ c.rest.ensures.is other h.1)
