-- The counts below a node that a key reaches. One letter more reaches a child, and the count of
-- a node that a key reaches is the number of keys at or under it (`count_reached`). So in a list
-- of right counts each child has the number of its keys.
use Prim.Native.Nat.{ℕ, suc, ◌+◌, ◌-◌, ◌^◌, ◌≤◌, ◌<◌}
use native.Mathlib.Omega.{arith}
use mathlib.Core.List.{List, [], ◌∷◌, ◌++◌}
use mathlib.Core.Logic.{◌≢◌}
use mathlib.Core.Path.{◌≡◌, refl, sym, ◌∙◌, ap, subst}
use lib.ListN.{length, get_or, length-append}
use Rattle.trie.specs.Table.{complete, descend}
use Rattle.trie.specs.Keys.{keys_under, listing}
use Rattle.trie.specs.Rules.{Linked}
use Rattle.trie.proofs.Walk.{descend_nil, descend_on, descend_append, complete_within}
use Rattle.head.specs.declared.Head.{Head}
use Rattle.node.specs.Image.{table_of}
use Rattle.passing.specs.Passing.{count_at}
use Rattle.passing.proofs.Reached.{count_reached}
use Rattle.paper.specs.Calls.{table_in, stored_keys}
use Rattle.paper.proofs.CheckCall.{accepted_linked}
use Rattle.paper.proofs.NextKeyCall.{counted_fits}
use Rattle.position.specs.Counts.{count_in}
use Rattle.sound.proofs.Sounds.{sound_accepted}
use Rattle.ranking.specs.declared.Counted.{Counted}
use Rattle.ranking.specs.Ranking.{ChildCounts}
use Rattle.ranking.proofs.ByLetter.{by_child}

-- the keys at or under a node at a depth
abbrev pub held : Head → List ℕ → ℕ → ℕ → List (List ℕ)
held h l p depth = keys_under (table_of h l) h.n (h.min - depth) (h.max - depth) p

-- what the way needs to know: an accepted image, right counts, and the image's own head in hand
pub record Known (h : Head) (l counts : List ℕ) : Type 0 where
  pub linked : Linked (table_of h l) h.g h.n
  pub stored : stored_keys l ≡ listing (table_of h l) h.n h.min h.max
  pub table : table_in l ≡ table_of h l
  pub few : length (listing (table_of h l) h.n h.min h.max) < 2 ^ 32
  pub long : h.g + 1 ≤ length counts
  pub each : (q : ℕ) → q ≤ h.g → get_or counts q 0 ≡ count_at (table_of h l) h.n h.min
      h.max q

pub known : (c : Counted) → Known c.sound.nodes.head c.sound.nodes.image.now c.counts.now
unfolding table_in stored_keys count_in
known c =
    let a = sound_accepted c.sound in
    subst
    (λ (k : Head). Known k c.sound.nodes.image.now c.counts.now)
    (sym c.sound.own)
    (record {
      linked = accepted_linked a;
      stored = refl;
      table = refl;
      few = counted_fits a;
      long = c.right.long;
      each = c.right.each;
    })

module _ {h : Head} {l counts : List ℕ} (w : Known h l counts) where
  -- one letter more
  pub one_more : (k : List ℕ) {p : ℕ} (i : ℕ) {c : ℕ} → descend (table_of h l) 0 k ≡ complete p
      → c ≡ (table_of h l).child p i → c ≢ 0
      → descend (table_of h l) 0 (k ++ (i ∷ [])) ≡ complete c
  one_more k {p} i e link full =
      descend_append (table_of h l) 0 k (i ∷ []) e
      ∙ descend_on (table_of h l) p i [] (λ z. full (link ∙ z))
      ∙ descend_nil (table_of h l) ((table_of h l).child p i)
      ∙ ap complete (sym link)

  pub within : (k : List ℕ) {p : ℕ} → descend (table_of h l) 0 k ≡ complete p → p ≤ h.g
  within k e = complete_within (table_of h l) h.g k w.linked.within e

  pub below : (k : List ℕ) {p : ℕ} (depth : ℕ) → descend (table_of h l) 0 k ≡ complete p
      → length k ≡ depth → depth < h.max
      → ChildCounts h l p depth counts
  below k {p} depth e deep room i full =
      let c = (table_of h l).child p i in
      let reached : descend (table_of h l) 0 (k ++ (i ∷ [])) ≡ complete c =
      one_more k i e refl full in
      let size : length (k ++ (i ∷ [])) ≡ suc depth = omega (arith, length-append k (i ∷ [])) in
      let inside : c ≤ h.g = within (k ++ (i ∷ [])) reached in
      let all : count_at (table_of h l) h.n h.min h.max c
      ≡ length (keys_under (table_of h l) h.n (h.min - suc depth) (h.max - suc depth) c) =
      rw size at (count_reached w.linked h.min h.max (k ++ (i ∷ [])) reached
      (omega (arith, size))) in (
        omega (arith, w.long, inside),
        w.each c inside ∙ all
            ∙ ap length (sym (by_child h l p depth i full)),
      )
