-- What is permitted in a head, as a record of named bounds. The test is a chain of tests within
-- limits, and a chain is true exactly if each of its parts is true.
use mathlib.Core.Path.{◌≡◌}
use mathlib.Core.Bool.{true}
use Prim.Native.Nat.{◌^◌, ◌≤◌}
use native.Mathlib.Nat.{pow-le-pow_right}
use native.Mathlib.Omega.{arith}
use Rattle.field.specs.Range.{between}
use Rattle.field.proofs.Range.{both, between_true}
use Rattle.head.specs.declared.Head.{Head}
use Rattle.head.specs.Fields.{permitted, most_links, most_link_bytes, most_data_bytes}
use Rattle.head.specs.Fields.{most_alphabet, most_letters}

pub record Bounds (h : Head) : Type 0 where
  pub n_least : 1 ≤ h.n
  pub n_most : h.n ≤ most_links
  pub a_least : 1 ≤ h.a
  pub a_most : h.a ≤ most_link_bytes
  pub d_least : 1 ≤ h.d
  pub d_most : h.d ≤ most_data_bytes
  pub f_most : h.f ≤ most_alphabet
  pub min_most : h.min ≤ h.max
  pub max_most : h.max ≤ most_letters

pub bounds : (h : Head) → permitted h ≡ true → Bounds h
unfolding permitted
bounds h e =
    let t5 = both _ (between h.max 0 most_letters) e in
    let t4 = both _ (between h.min 0 h.max) t5.0 in
    let t3 = both _ (between h.f 0 most_alphabet) t4.0 in
    let t2 = both _ (between h.d 1 most_data_bytes) t3.0 in
    let t1 = both (between h.n 1 most_links) (between h.a 1 most_link_bytes) t2.0 in
    let n = between_true h.n 1 most_links t1.0 in
    let a = between_true h.a 1 most_link_bytes t1.1 in
    let d = between_true h.d 1 most_data_bytes t2.1 in
    record {
      n_least = n.0;
      n_most = n.1;
      a_least = a.0;
      a_most = a.1;
      d_least = d.0;
      d_most = d.1;
      f_most = (between_true h.f 0 most_alphabet t3.1).1;
      min_most = (between_true h.min 0 h.max t4.1).1;
      max_most = (between_true h.max 0 most_letters t5.1).1;
    }

-- addresses of A bytes fit 32 bits
pub addresses_fit : {h : Head} → Bounds h → 256 ^ h.a ≤ 2 ^ 32
addresses_fit b = pow-le-pow_right (omega arith) b.a_most
