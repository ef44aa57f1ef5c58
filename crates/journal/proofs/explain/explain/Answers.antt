use Rattle.std.proofs.Common.{◌≡◌, ℕ, List, Bor, ◌++◌, drop, string_bytes, ap, ◌∙◌, subst, arith}
use Rattle.journal_lines.specs.declared.entry.Entry.{Entry}
use Rattle.journal_lines.specs.Entries.{entry_line}
use Rattle.journal.proofs.Explaining.{told_more, told_stop, told_all}
use Rattle.journal.proofs.explain.explain.Goals as goal

pub loop-fields-preserved : goal.loop-fields-preserved
loop-fields-preserved c =
    let so_far = c.loop-fields.invariant in
    let found = c.in-Ok.ensures in
    let to = c.read.new.fields.at in
    let is = subst (λ (t : List ℕ). drop c.loop-fields.fields.at t ≡ entry_line c.in-Ok.entry ++ drop to t) so_far.0 found.3 in (
      ap (λ (b : Bor (List ℕ)). b.now) found.0 ∙ so_far.0,
      omega (arith, found.1, so_far.1),
      told_more c.args.text.now c.loop-fields.line c.loop-fields.fields.at (string_bytes c.loop-fields.told) so_far.2 c.in-Ok.entry to
          (string_bytes c.writeln.new.self) is c.in_ok-writeln-in-Ok.ensures.bytes,
    )

pub returns-in-Err : goal.returns-in-Err
returns-in-Err c =
    let so_far = c.loop-fields.invariant in
    let none = subst (λ (t : List ℕ). (e : Entry) (rest : List ℕ) → drop c.loop-fields.fields.at t ≡ entry_line e ++ rest → ⊥) so_far.0 c.in-Err.ensures.2 in
    told_stop c.args.text.now c.loop-fields.line c.loop-fields.fields.at (string_bytes c.loop-fields.told) so_far.2 (string_bytes c.writeln-in-Err.new.self)
    c.loop-fields-test.true none c.in_ok-writeln-in-Err.ensures.bytes

pub returns : goal.returns
returns c =
    told_all c.args.text.now c.loop-fields.line c.loop-fields.fields.at (string_bytes c.loop-fields.told) c.loop-fields.invariant.2
    c.loop-fields-test.false
