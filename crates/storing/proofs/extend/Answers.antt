-- `storing::extend` meets its contract: 12 and 13 were judged for all missing nodes, so the path
-- can be built. Assumes nothing.
use Prim.Native.Nat.{suc, ◌+◌, ◌-◌}
use mathlib.Core.Path.{◌≡◌, sym, ap, ◌∙◌}
use mathlib.Core.List.{◌∷◌}
use mathlib.Core.Logic.{◌≢◌}
use native.Mathlib.Omega.{arith}
use borrow.Author.Rules.{rules}
use lib.ListN.{length, get_or, drop, length-drop}
use Rattle.head.specs.Fields.{most_letters}
use Rattle.head.proofs.Permitted.{bounds, addresses_fit}
use Rattle.node.specs.Writes.{carried_out, store_writes}
use Rattle.key.specs.Hand.{letters_of}
use Rattle.key.proofs.Hand.{letters_count, letters_from}
use Rattle.storing.specs.StoreStage.{stopped_at, Space}
use Rattle.storing.proofs.Adding.{none_built, path_space, path_built}
use Rattle.storing.proofs.extend.Goals as goal
use Rattle.storing.proofs.extend.Goals.{Joined-value-ne0, Start, then-value-ne0, else-value-ne0}

-- the array's length
whole : (c : Start) → length c.args.asked.key.letters ≡ most_letters
whole c = search rules

-- the letter that stopped the walk, and those after it
left : (c : Start) →
    let a = c.args in
    drop a.at.depth (letters_of a.asked.key) ≡ get_or a.asked.key.letters a.at.depth 0
    ∷ drop (suc a.at.depth) (letters_of a.asked.key)
left c = letters_from c.args.asked.key (whole c) c.args.asked.ready.short c.args.at.depth
    c.requires.stop.depth

-- as many nodes are missing as letters are left
total : (c : Start) →
    let a = c.args in a.asked.head.g + (a.asked.key.len - a.at.depth) ≡ a.asked.head.g
    + length (drop a.at.depth (letters_of a.asked.key))
total c =
    let a = c.args in
    let count = letters_count a.asked.key (whole c) c.args.asked.ready.short in
    ap (λ n. a.asked.head.g + n) (sym (length-drop a.at.depth (letters_of a.asked.key)
    ∙ ap (λ n. n - a.at.depth) count))

-- addresses and room for these nodes
room : (c : Start) →
    let a = c.args in
    a.value ≢ 0 → Space a.asked.head a.image.now (a.asked.head.g + (a.asked.key.len - a.at.depth))
room c some =
    rw (total c) (path_space _ _ _ _ _ (left c) _ some c.requires.unrefused)

-- the image after the writes
wrote : (c : Joined-value-ne0) → let a = c.args in
    drop a.at.depth (letters_of a.asked.key) ≡ get_or a.asked.key.letters a.at.depth 0
    ∷ drop (suc a.at.depth) (letters_of a.asked.key) →
    a.asked.head.g + (a.asked.key.len - a.at.depth) ≡ a.asked.head.g
    + length (drop a.at.depth (letters_of a.asked.key)) →
    c.if-value-ne0.image ≡ carried_out a.image.now
    (store_writes a.asked.head (stopped_at a.at.node (drop a.at.depth (letters_of a.asked.key)))
    a.value)
wrote c l t =
    elim c.if-value-ne0.branch [
      | then-value-ne0 w ↦ w.image-is
          ∙ path_built _ _ _ _ _ l _ w.if-value-ne0.true t w.build.ensures
      | else-value-ne0 w ↦ w.image-is ∙ none_built _ _ _ _ _ l _ w.if-value-ne0.false
    ]

pub overflow_add-asked : goal.overflow_add-asked
overflow_add-asked c =
    omega (
      arith,
      (room (goal.at.overflow_add-asked c).Start c.if-value-ne0.true).addresses,
      addresses_fit (bounds c.args.asked.head c.requires.open.head_permitted),
    )

pub build-requires-clause-space : goal.build-requires-clause-space
build-requires-clause-space c =
    room (goal.at.build-requires-clause-space c).Start c.if-value-ne0.true

pub returns-clause-image_after : goal.returns-clause-image_after
returns-clause-image_after c =
    let s = (goal.at.returns-clause-image_after c).Start in
    wrote (goal.at.returns-clause-image_after c).Joined-value-ne0 (left s) (total s)
