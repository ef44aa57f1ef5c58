use Rattle.std.proofs.Common.{ℕ, List, Bor, ◌+◌, ap, ◌∙◌}
use Rattle.text.proofs.Fields.{hit_in}
use Rattle.circuit_text.proofs.Lines.{coins_hit, body_at}
use Rattle.circuit_text.proofs.read.coins.Goals as goal

pub returns : goal.returns
returns c =
    let kind = c.in_ok-byte.ensures in
    let h = c.in_ok-coins.ensures in (
      h.0 ∙ kind.0,
      coins_hit _ _ _ _ kind.1 c.if-branch-ne66.false _ _ c.if-coins-gt-MOST_COINS.false (hit_in kind.0 h.1),
      h.2 ∙ ap (λ (b : Bor (List ℕ)). b.ref_ptr.0) kind.0,
      h.3 ∙ (λ i. body_at _ _ _ _ kind.1 i + (kind.0 i).ref_ptr.1),
    )
