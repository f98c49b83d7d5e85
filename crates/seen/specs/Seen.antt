-- What the calls see of an image (01: "bytes from U on are spare, may hold anything, and are never
-- judged"), and what it means that two images answer alike in every call (02, Ask 1: "the answers
-- from before the store or after it").
use Rattle.std.specs.Prelude.{ℕ, ◌≤◌, ◌<◌, ◌≡◌, List, length, get_or}
use Rattle.trie.specs.Table.{Table}
use Rattle.head.specs.declared.Head.{Head}
use Rattle.head.specs.Fields.{head_of, used_len}
use Rattle.paper.specs.Given.{alphabet_in}
use Rattle.paper.specs.Calls.{table_in, stored_keys}
use Rattle.position.specs.Counts.{counts_in}
use Rattle.calls.specs.Call.{Call, outcome_of, image_after, besides_image, answers_of}

-- what is seen of an image: its head, table, alphabet and length, and nothing else
pub record Seen : Type 0 where
  pub head : Head
  pub table : Table
  pub alphabet : List ℕ
  pub len : ℕ

-- what is seen of these bytes
abbrev pub seen_in : List ℕ → Seen
seen_in l = record {
  head = head_of l;
  table = table_in l;
  alphabet = alphabet_in (head_of l) l;
  len = length l;
}

-- two images of one length with equal heads and equal bytes from `from` up to U. From 0 on these
-- are all used bytes. From 4 on they are all but the bytes of G; the heads say that G is equal.
pub record SameUsed (from : ℕ) (a b : List ℕ) : Type 0 where
  pub heads : head_of a ≡ head_of b
  pub lengths : length a ≡ length b
  pub bytes : (p : ℕ) → from ≤ p → p < used_len (head_of b) → get_or a p 0 ≡ get_or b p 0

-- a call on either image: equal numbers, equal content of every buffer besides the image, and the
-- images that it leaves are alike again, up to the new U
pub record SameOutcome (from : ℕ) (a b : List ℕ) (c : Call) : Type 0 where
  pub numbers : (outcome_of a c).numbers ≡ (outcome_of b c).numbers
  pub buffers : besides_image a c ≡ besides_image b c
  pub images : SameUsed from (image_after a c) (image_after b c)

-- two images answer alike in every call and in every run of calls, and have the same keys and
-- counts
pub record SameAnswers (from : ℕ) (a b : List ℕ) : Type 0 where
  pub alike : SameUsed from a b
  pub calls : (c : Call) → SameOutcome from a b c
  pub runs : (cs : List Call) → answers_of a cs ≡ answers_of b cs
  pub lists : stored_keys a ≡ stored_keys b
  pub weighed : counts_in a ≡ counts_in b
