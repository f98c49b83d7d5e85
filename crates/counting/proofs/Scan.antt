-- The number of stored keys, node by node: in an accepted image there are as many as nodes whose
-- data is not 0. So a sum over some of the nodes is at most that number, which fits 32 bits.
use Prim.Native.Nat.{ℕ, ◌+◌, ◌-◌, ◌^◌, ◌<◌, ◌≤◌}
use native.Mathlib.Omega.{arith}
use mathlib.Core.List.{List}
use mathlib.Core.Logic.{◌≢◌}
use mathlib.Core.Path.{◌≡◌, sym}
use lib.ListN.{length}
use Rattle.trie.specs.Keys.{listing, holding}
use Rattle.trie.proofs.Holding.{holding_full, holding_grows, keys_hold}
use Rattle.head.specs.declared.Head.{Head}
use Rattle.head.specs.Fields.{head_of}
use Rattle.node.specs.Image.{table_of}
use Rattle.node.proofs.Tables.{framed}
use Rattle.paper.specs.Calls.{table_in, stored_keys}
use Rattle.paper.specs.Accepted.{Accepted}
use Rattle.paper.proofs.NextKeyCall.{counted_fits}

module _ {l : List ℕ} {h : Head} (a : Accepted l) (same : h ≡ head_of l) where
  pub scanned : holding (table_of h l) (h.g + 1)
      ≡ length (listing (table_of h l) h.n h.min h.max)
  unfolding table_in
  scanned =
      rw same (sym (keys_hold (framed (head_of l) l) a.links (head_of l).min (head_of l).max
      a.visible))

  fits : holding (table_of h l) (h.g + 1) < 2 ^ 32
  unfolding stored_keys table_in
  fits = rw scanned (rw same (counted_fits a))

  -- a node whose data is not 0 may be counted
  pub one_fits : (q : ℕ) → q ≤ h.g → (table_of h l).value q ≢ 0 → holding (table_of h l) q + 1
      < 2 ^ 32
  one_fits q low full =
      let e : q + 1 + (h.g - q) ≡ h.g + 1 = omega arith in
      omega (
        arith,
        fits,
        holding_full (table_of h l) q full,
        rw e at (holding_grows (table_of h l) (q + 1) (h.g - q)),
      )
