use Rattle.std.proofs.Common.{refl, ◌∙◌}
use Rattle.text.proofs.Fields.{hit_in, miss_in}
use Rattle.text.proofs.Places.{goes_up}
use Rattle.journal_lines.specs.Entries.{ReadsEntry}
use Rattle.journal_lines.proofs.Entries.{no_event, not_lawful, read_entry}
use Rattle.journal_lines.proofs.entry.Entry.read.Goals as goal

pub returns-in_err-event : goal.returns-in_err-event
returns-in_err-event c =
    let number = c.in_ok-number.ensures in
    let e = c.in_err-event.ensures in
    goes_up (λ r. ReadsEntry c.args.fields.now r c.args.fields.now) _ _ c.from_residual-in_err-event.ensures.1
    (e.0, refl, no_event _ _ _ _ number.1 (miss_in number.0 e.1))

pub returns-in_err-entry : goal.returns-in_err-entry
returns-in_err-entry c =
    let number = c.in_ok-number.ensures in
    let told = not_lawful _ _ _ _ number.1 _ _ (hit_in number.0 c.in_ok-event.ensures.1) _ c.in_err-entry.ensures in
    goes_up (λ r. ReadsEntry c.args.fields.now r c.args.fields.now) _ _ c.from_residual-in_err-entry.ensures.1 (told.0, refl, told.1)

pub returns : goal.returns
returns c =
    let number = c.in_ok-number.ensures in
    let event = c.in_ok-event.ensures in
    let told = c.in_ok-entry.ensures.1 in
    let line = read_entry _ _ _ _ number.1 _ _ (hit_in number.0 event.1) _ told.0 told.1 in
    (event.0 ∙ number.0, line.0, line.1, line.2, line.3)
