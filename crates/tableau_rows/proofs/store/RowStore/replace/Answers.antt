use Rattle.std.proofs.Common.{◌≡◌, ◌<◌, length, refl, arith, rules}
use Rattle.pauli.specs.Rows.{zero_row}
use Rattle.tableau_rows.specs.Held.{D_of, E_of}
use Rattle.tableau_laws.specs.Rules.{cleared, cleared_row}
use Rattle.tableau_rows.specs.Parts.{zero_pair, pair_in}
use Rattle.tableau_rows.proofs.Counted.{put_one}
use Rattle.tableau_rows.proofs.store.RowStore.replace.Goals as goal

pub returns : goal.returns
returns c =
    let s = c.args.self.now in
    let k = c.args.k in
    let b = c.args.b in
    let ps = c.each.new.places in
    let room : k < length ps = omega (arith, s.room, s.few) in
    record {
      m_is = refl;
      w_is = refl;
      D_is = λ i lt.
          let h = c.each.ensures zero_pair i (omega arith) in
          let is : (pair_in ps i).destabilizer ≡ cleared b (E_of s k).label (D_of s i) = search rules in
          put_one zero_pair (λ p. p.destabilizer) ps k _ _ _ i room refl is;
      E_is = λ i lt.
          let h = c.each.ensures zero_pair i (omega arith) in
          let is : (pair_in ps i).stabilizer ≡ cleared_row b (E_of s k) (E_of s i) = search rules in
          put_one zero_pair (λ p. p.stabilizer) ps k _ _ _ i room refl is;
      J_is = λ i lt. let h = c.each-2.ensures zero_row i (omega arith) in search rules;
    }
