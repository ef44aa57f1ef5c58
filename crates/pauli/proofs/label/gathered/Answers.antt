use Rattle.std.proofs.Common.{◌≡◌, ◌-◌, ◌++◌, ◌∷◌, [], length, false, ◌∙◌, arith, rules}
use Rattle.std.proofs.lemmas.List.{length_push}
use Rattle.std.proofs.lemmas.List.Folds.{list_all_at}
use Rattle.std.proofs.lemmas.Iterator.Adapters.{YieldsList-from_rev_slice}
use Rattle.std.proofs.lemmas.Iterator.Consumers.{YieldsList-turn}
use Rattle.pauli.specs.Letters.{is_letter, all_letters}
use Rattle.pauli.proofs.Texts.{gather_more, is_no_code, from_end}
use Rattle.pauli.proofs.label.gathered.Goals as goal

pub returns-in_err-try_from : goal.returns-in_err-try_from
returns-in_err-try_from c =
    let t = c.args.text.now in
    let turn = YieldsList-turn (YieldsList-from_rev_slice t cc) c.loop-byte.yielded _ c.loop-byte.yielded_by _ _ c.in-Some.byte c.in-Some.is c.next.ensures.steps in
    let read = from_end t (length c.loop-byte.yielded) c.in-Some.byte.now turn in
    let bad : all_letters t ≡ false = list_all_at is_letter t (length t - length c.loop-byte.yielded - 1) 0 (omega arith) (rw (read.1) (is_no_code _ c.in_err-try_from.ensures.1)) in
    rw bad (search rules)

pub loop-byte-preserved : goal.loop-byte-preserved
loop-byte-preserved c =
    let t = c.args.text.now in
    let n = length c.loop-byte.yielded in
    let turn = YieldsList-turn (YieldsList-from_rev_slice t cc) c.loop-byte.yielded _ c.loop-byte.yielded_by _ _ c.in-Some.byte c.in-Some.is c.next.ensures.steps in
    let read = from_end t n c.in-Some.byte.now turn in
    let more = length_push c.loop-byte.yielded c.in-Some.byte in
    let next : length t - length (c.loop-byte.yielded ++ c.in-Some.byte ∷ []) ≡ length t - n - 1 = omega arith in
    rw (next, c.from.ensures, c.from-in-loop-byte.ensures, c.bits-x.ensures)
    (gather_more t (length t - n) c.loop-byte.label _ (omega arith) (omega arith) (read.1 ∙ c.in_ok-try_from.ensures) c.loop-byte.invariant)
