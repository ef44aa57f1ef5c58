use Rattle.std.proofs.Common.{◌≡◌, ◌+◌, ◌/◌, ◌%◌, [], ◌∷◌, length, sym, ap, ◌∙◌, subst, arith, length-append}
use Rattle.text.specs.Texts.{num}
use Rattle.text.specs.Writing.{Room, Writes}
use Rattle.text.proofs.Numbers.{num_digit, num_step}
use Rattle.text.proofs.Writing.{next, recast, room_after}
use Rattle.text.proofs.write.Writer.+put_number.Goals as goal
use Rattle.text.proofs.write.Writer.+put_number.Goals.{then-n-ge10, else-n-ge10}

pub put_number-requires : goal.put_number-requires
put_number-requires t c =
    let n = c.args.n in
    let s = ap length (num_step n (omega arith) (omega arith)) ∙ length-append (num (n / 10)) ((48 + n % 10) ∷ []) in
    (omega arith, omega arith)

pub put-requires : goal.put-requires
put-requires t c =
    let n = c.args.n in
    elim c.if-n-ge10.branch [
      | then-n-ge10 w ↦
          let s = ap length (num_step n (omega (arith, w.if-n-ge10.true)) (omega arith)) ∙ length-append (num (n / 10)) ((48 + n % 10) ∷ []) in
          subst (λ v. Room v 1) (sym w.self-is) (room_after 1 w.put_number.ensures (omega (arith, c.requires)))
      | else-n-ge10 w ↦
          let s = ap length (num_digit n (omega (arith, w.if-n-ge10.false))) in
          subst (λ v. Room v 1) (sym w.self-is) (omega (arith, c.requires))
    ]

pub returns : goal.returns
returns t c =
    let n = c.args.n in
    elim c.if-n-ge10.branch [
      | then-n-ge10 w ↦
          recast _ (sym (num_step n (omega (arith, w.if-n-ge10.true)) (omega arith)))
          (next w.put_number.ensures (subst (λ v. Writes v ((48 + n % 10) ∷ []) c.put.new.self) w.self-is c.put.ensures))
      | else-n-ge10 w ↦
          let last : n % 10 ≡ n = omega (arith, w.if-n-ge10.false) in
          recast _ (ap (λ d. (48 + d) ∷ []) last ∙ sym (num_digit n (omega (arith, w.if-n-ge10.false))))
          (subst (λ v. Writes v ((48 + n % 10) ∷ []) c.put.new.self) w.self-is c.put.ensures)
    ]
