-- `storing::new_nodes` meets its contract: at each turn the writes that are left, done on the
-- image so far, give the image that all writes together give. Assumes nothing.
use Prim.Native.Nat.{ℕ, suc, ◌+◌, ◌-◌, ◌^◌, ◌≤◌, ◌<◌}
use mathlib.Core.Path.{◌≡◌, sym, ap, ◌∙◌}
use native.Mathlib.Omega.{arith}
use borrow.Author.Rules.{rules}
use lib.ListN.{length, get_or, drop, length-drop}
use lib.Seq.{get_or-take}
use Rattle.std.proofs.lemmas.List.{get_or-drop}
use Rattle.head.specs.Fields.{most_letters}
use Rattle.head.proofs.Permitted.{bounds, addresses_fit}
use Rattle.key.specs.Hand.{letters_of}
use Rattle.key.proofs.Hand.{letters_count, letter_below}
use Rattle.storing.proofs.Building.{laying_none, laying_room, laying_on, laying_end}
use Rattle.storing.proofs.new_nodes.Goals as goal
use Rattle.storing.proofs.new_nodes.Goals.{Start}

-- the array's length
whole : (c : Start) → length c.args.asked.key.letters ≡ most_letters
whole c = search rules

-- how many letters are left
many : (c : Start) → let a = c.args in
    length (drop a.from (letters_of a.asked.key)) ≡ a.asked.key.len - a.from
many c =
    let key = c.args.asked.key in
    length-drop c.args.from (letters_of key)
    ∙ omega (arith, letters_count key (whole c) c.args.asked.ready.short)

-- each of them is a letter of the key
left : (c : Start) (depth : ℕ) → let a = c.args in
    a.from ≤ depth → depth < a.asked.key.len
    → get_or (drop a.from (letters_of a.asked.key)) (depth - a.from) 0
    ≡ get_or a.asked.key.letters depth 0
left c depth low h =
    let key = c.args.asked.key in
    let e : c.args.from + (depth - c.args.from) ≡ depth = omega arith in
    get_or-drop c.args.from (letters_of key) (depth - c.args.from) 0
    ∙ ap (λ (i : ℕ). get_or (letters_of key) i 0) e ∙ get_or-take key.len key.letters depth 0 h

few : (c : Start) → c.args.asked.head.g + suc (c.args.asked.key.len - c.args.from) < 2 ^ 32
few c =
    omega (
      arith,
      c.requires.space.addresses,
      addresses_fit (bounds c.args.asked.head c.requires.permitted),
    )

pub loop-depth-init : goal.loop-depth-init
loop-depth-init c =
    let e : c.args.from - c.args.from ≡ 0 = omega arith in
    (omega arith, rw e (laying_none _ _ _ _))

pub overflow_add-node : goal.overflow_add-node
overflow_add-node c = omega (arith, few (goal.at.overflow_add-node c).Start)

pub overflow_add-next : goal.overflow_add-next
overflow_add-next c =
    omega (
      arith,
      few (goal.at.overflow_add-next c).Start,
      c.loop-depth.invariant.1.count,
      c.loop-depth.invariant.0,
    )

pub write_path-requires-clause-room : goal.write_path-requires-clause-room
write_path-requires-clause-room c =
    let s = (goal.at.write_path-requires-clause-room c).Start in
    laying_room c.loop-depth.invariant.1 (omega (arith, many s)) (rw (many s) c.requires.space)

pub write_path-requires-clause-letter : goal.write_path-requires-clause-letter
write_path-requires-clause-letter c =
    rw c.from.ensures
    (letter_below c.args.asked.key (whole (goal.at.write_path-requires-clause-letter c).Start)
    c.args.asked.ready.short _ _ c.args.asked.ready.letters (omega arith))

pub loop-depth-preserved : goal.loop-depth-preserved
loop-depth-preserved c =
    let s = (goal.at.loop-depth-preserved c).Start in
    let low = c.loop-depth.invariant.0 in
    let e : c.loop-depth.depth + 1 - c.args.from ≡ c.loop-depth.depth - c.args.from + 1 =
    omega (arith, low) in (
      omega (arith, low),
      rw e
          (laying_on c.loop-depth.invariant.1 (omega (arith, many s, low))
          (rw (c.from.ensures, sym (left s c.loop-depth.depth low (omega arith)))
          at c.write_path.ensures)),
    )

pub write_last-requires-clause-room : goal.write_last-requires-clause-room
write_last-requires-clause-room c =
    let s = (goal.at.write_last-requires-clause-room c).Start in
    laying_room c.loop-depth.invariant.1 (omega (arith, many s)) (rw (many s) c.requires.space)

pub returns : goal.returns
returns c =
    laying_end c.loop-depth.invariant.1
    (omega (arith, many (goal.at.returns c).Start, c.loop-depth.invariant.0))
    c.write_last.ensures
