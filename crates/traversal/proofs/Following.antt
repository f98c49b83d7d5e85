-- A key followed letter by letter. The path so far is the beginning of the key. Where the path
-- ends, the key ends or the next link is empty.
use Prim.Native.Nat.{ℕ, ◌+◌, ◌<◌, ◌≤◌}
use native.Mathlib.Numerals.{add-one}
use native.Mathlib.Omega.{arith}
use mathlib.Core.List.{List, [], ◌∷◌, ◌++◌}
use mathlib.Core.Logic.{◌≢◌}
use mathlib.Core.Path.{◌≡◌, refl, sym, ◌∙◌, ap}
use Rattle.std.specs.Prelude.{Ok, Err, Option as Maybe, Some, None}
use Rattle.std.specs.Option.{option_flatten}
use Rattle.std.specs.Result.{result_ok}
use Rattle.std.proofs.lemmas.Option.{none-some}
use lib.ListN.{length, get_or, take, set}
use lib.Seq.{take-suc, take-suc-set, get_or-set_same}
use Rattle.trie.specs.Table.{LettersBelow}
use Rattle.trie.specs.Rules.{Within}
use Rattle.trie.proofs.LettersBelow.{letters_at}
use Rattle.head.specs.declared.Head.{Head}
use Rattle.node.specs.Image.{table_of}
use Rattle.walk.specs.declared.Position.{Position}
use Rattle.walk.specs.Descent.{at_root, on_to, step_of}
use Rattle.walk.proofs.Descents.{Step, step_led, step_stayed}
use Rattle.traversal.specs.Search.{Along, Followed}
use Rattle.traversal.proofs.Paths.{along_none, along_more}

-- the letters of the key were followed to this depth, where the descent stands at `here`
pub record Following (h : Head) (l k path nodes : List ℕ) (here : Position) (depth : ℕ) : Type 0
  where
    pub deep : here.depth ≡ depth
    pub node : here.node ≡ get_or nodes depth 0
    pub short : depth ≤ length k
    pub same : take depth path ≡ take depth k
    pub along : Along h l depth path nodes

-- at the root, once it is written as the first node
pub following_start : (h : Head) (l k path nodes : List ℕ) → 0 < length nodes
    → Following h l k path (set nodes 0 0) at_root 0
following_start h l k path nodes room =
    let root : get_or (set nodes 0 0) 0 0 ≡ 0 = get_or-set_same nodes 0 0 0 room in
    record {
      deep = refl;
      node = sym root;
      short = omega arith;
      same = refl;
      along = along_none h l path (set nodes 0 0) root;
    }

-- the position to which a step led, if it led to one
abbrev pub led : Step → Maybe Position
led s = option_flatten (result_ok s)

led_some : (s : Step) {next : Position} → led s ≡ Some next → s ≡ Ok (Some next)
led_some (Ok (Some p)) e = ap Ok e
led_some (Ok None) e = absurd (none-some _ e)
led_some (Err why) e = absurd (none-some _ e)

module _ {h : Head} {l k path nodes : List ℕ} {here : Position} {depth : ℕ}
    (f : Following h l k path nodes here depth) where
  -- x is the next letter, and s where it leads
  module _ {x : ℕ} {s : Step} (letter : get_or k depth 0 ≡ x)
      (step : s ≡ step_of h.g (table_of h l) here x) where
    abbrev link : ℕ
    link = (table_of h l).child here.node x

    -- the same link, by the last node of the path
    met : link ≡ (table_of h l).child (get_or nodes depth 0) x
    met = rw (← f.node) refl

    -- to no position: no link is above G, so it is empty
    pub following_stop : Within (table_of h l) h.g → led s ≡ None
        → Followed h l k path nodes depth
    following_stop within none =
        let stays : (next : Position) → s ≢ Ok (Some next) =
        λ next e. none-some next (sym none ∙ ap led e) in
        record {
          short = f.short;
          letters = f.same;
          along = f.along;
          stops = λ low. rw letter (sym met ∙ step_stayed _ _ _ _ step within stays);
        }

    -- there is room for the letter, and for the node to which it leads
    module _ (low : depth < length k) (allowed : LettersBelow h.n k)
        (room : depth < length path) (ends : depth + 1 < length nodes) where
      followed : link ≢ 0
          → Following h l k (set path depth x) (set nodes (depth + 1) link) (on_to here link)
          (depth + 1)
      followed full =
          let b : x < h.n = rw (← letter) (letters_at h.n k allowed depth low) in
          record {
            deep = ap (λ (d : ℕ). d + 1) f.deep;
            node = sym (get_or-set_same nodes (depth + 1) link 0 ends);
            short = omega arith;
            same =
                rw (add-one depth)
                (take-suc-set path depth x room
                ∙ ap (◌++ (x ∷ [])) f.same
                ∙ ap (λ (y : ℕ). take depth k ++ (y ∷ [])) (sym letter)
                ∙ sym (take-suc k depth 0 low));
            along = along_more h l f.along room ends b met full;
          }

      -- to the next position
      pub following_on : {next : Position} → led s ≡ Some next
          → Following h l k (set path depth x) (set nodes (depth + 1) next.node) next (depth + 1)
      following_on e =
          let (full, is) = step_led h.g (table_of h l) here x step (led_some s e) in
          rw is (followed full)
