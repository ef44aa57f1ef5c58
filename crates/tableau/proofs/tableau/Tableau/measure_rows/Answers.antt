use Rattle.std.proofs.Common.{◌≡◌, ℕ, ◌/◌, Bool, true, cond, Some, None, sym, ap, ◌∙◌, arith}
use Rattle.pauli.specs.declared.fault.Fault.TheVariants.{BadLabel}
use Rattle.pauli.specs.Labels.{fits}
use Rattle.tableau_laws.specs.Tableaux.{jw_count}
use Rattle.tableau_rows.specs.Held.{J_of}
use Rattle.tableau.specs.Kept.{measure_kept, even}
use Rattle.tableau.proofs.tableau.Tableau.measure_rows.Goals as goal

pub invariant_of-self : goal.invariant_of-self
invariant_of-self c =
    let s = c.args.self.now.rows in
    let b = c.args.b in
    let p = c.args.self.now.pattern in
    let fit : fits s.size b ≡ true = ap (λ (n : ℕ). fits n b) (sym c.size.ensures) ∙ sym c.if-not-fits.ensures in
    let rows = c.measure.ensures.rows (jw_count s.width (J_of s) b / 2) (even s b p) in
    record { pattern = measure_kept s c.measure.new.self b c.args.sign c.args.coins p fit c.measure.ensures.size rows }

pub returns : goal.returns
returns c =
    let s = c.args.self.now.rows in
    let b = c.args.b in
    let fit : fits s.size b ≡ true = ap (λ (n : ℕ). fits n b) (sym c.size.ensures) ∙ sym c.if-not-fits.ensures in
    let rows = c.measure.ensures.rows (jw_count s.width (J_of s) b / 2) (even s b c.args.self.now.pattern) in
    record {
      done = (ap (λ (f : Bool). cond f None (Some BadLabel)) fit, (c.measure.ensures.outcome, c.measure.ensures.size, rows));
      kept = λ e. absurd (let z : ◌≡◌ {A = ℕ} 0 1 = cc in omega arith);
    }
