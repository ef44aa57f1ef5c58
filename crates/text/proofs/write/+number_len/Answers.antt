use Rattle.std.proofs.Common.{◌+◌, ◌/◌, ◌%◌, [], ◌∷◌, length, sym, ap, ◌∙◌, arith, length-append}
use Rattle.text.specs.Texts.{num}
use Rattle.text.proofs.Numbers.{num_digit, num_step, length_num}
use Rattle.text.proofs.write.+number_len.Goals as goal

pub returns-then-n-lt10 : goal.returns-then-n-lt10
returns-then-n-lt10 t c = record { is = sym (ap length (num_digit c.args.n (omega arith))); few = omega arith }

pub returns-else-n-lt10 : goal.returns-else-n-lt10
returns-else-n-lt10 t c =
    let n = c.args.n in
    let s = ap length (num_step n (omega arith) (omega arith)) ∙ length-append (num (n / 10)) ((48 + n % 10) ∷ []) in
    let f = length_num n (omega arith) in
    let told = c.number_len.ensures.is in
    record { is = omega arith; few = omega arith }
