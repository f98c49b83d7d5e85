-- `tracking::shift` meets its contract: at each turn the counts of the nodes passed so far have
-- changed. Assumes nothing.
use Prim.Native.Nat.{◌<◌}
use native.Mathlib.Omega.{arith}
use lib.ListN.{length}
use Rattle.trie.proofs.LettersBelow.{letters_at}
use Rattle.key.specs.Hand.{letters_of}
use Rattle.tracking.proofs.Shifting.{going_start, going_within, going_over}
use Rattle.tracking.proofs.Shifting.{going_under, going_on, going_end}
use Rattle.tracking.proofs.shift.Goals as goal
use Rattle.tracking.proofs.shift.Goals.{At-loop-letter}

-- the list has a number for the node
inside : (c : At-loop-letter) → c.loop-letter.node < length c.loop-letter.counts
inside c =
    let r = c.requires in
    omega (arith, going_within r.rules r.fit c.loop-letter.invariant, c.loop-letter.invariant.long)

pub loop-letter-init : goal.loop-letter-init
loop-letter-init c = going_start

pub link-next-requires : goal.link-next-requires
link-next-requires c =
    let r = c.requires in
    record {
      node = going_within r.rules r.fit c.loop-letter.invariant;
      letter = rw c.from.ensures
          (letters_at _ (letters_of c.args.key) r.ready.letters _ c.loop-letter-test.true);
    }

pub bump-requires : goal.bump-requires
bump-requires c =
    let r = c.requires in
    record {
      inside = inside (goal.at.bump-requires c).At-loop-letter;
      over = going_over r.rules r.fit c.loop-letter.invariant;
      under = going_under r.rules r.fit c.loop-letter.invariant;
    }

pub loop-letter-preserved : goal.loop-letter-preserved
loop-letter-preserved c =
    let r = c.requires in
    going_on r.rules r.fit c.loop-letter.invariant
    (inside (goal.at.loop-letter-preserved c).At-loop-letter) c.bump.ensures r.whole
    c.loop-letter-test.true (rw c.from.ensures at c.link-next.ensures)

pub bump-requires-2 : goal.bump-requires-2
bump-requires-2 c =
    let r = c.requires in
    record {
      inside = inside (goal.at.bump-requires-2 c).At-loop-letter;
      over = going_over r.rules r.fit c.loop-letter.invariant;
      under = going_under r.rules r.fit c.loop-letter.invariant;
    }

pub returns : goal.returns
returns c =
    let r = c.requires in
    going_end r.rules r.fit c.loop-letter.invariant
    (inside (goal.at.returns c).At-loop-letter) c.bump-2.ensures c.loop-letter-test.false
