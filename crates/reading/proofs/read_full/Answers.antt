-- `reading::read_full` meets its contract: what each read gives comes after what the buffer has.
-- Assumes nothing.
use Rattle.std.proofs.Common.{◌≡◌, ℕ, ◌+◌, ◌-◌, ◌≤◌, List, [], ◌++◌, rules, arith, length, take}
use Rattle.std.proofs.Common.{drop, refl, sym, ap, ◌∙◌, subst, le_refl, drop_at, length-take-le}
use Rattle.std.specs.Prelude.{Option, Some, None}
use Rattle.std.proofs.lemmas.Slice.{take-put_mid_below}
use Rattle.std.specs.Io.KnownBytes.{Consumes}
use Rattle.std.proofs.KnownBytes.{Consumes-trans}
use borrow.Rule.Slice.PartMut.{put_mid, post_of}
use lib.Seq.{take-add, take-append-le}
use Rattle.reading.proofs.read_full.Goals as goal

none_given : (left : Option (List ℕ)) → Consumes left left []
none_given None = tt
none_given (Some xs) = refl

-- the bytes of one more read, behind those that the buffer has
front : (at k n : ℕ) (xs ys : List ℕ) → at ≤ length xs → n ≤ length ys
    → take at xs ++ take n ys ≡ take (at + n) (put_mid at k xs ys)
front at k n xs ys within fits =
    let rest = ys ++ post_of at k xs in
    sym (take-add at n (put_mid at k xs ys)
    ∙ ap (◌++ take n (drop at (put_mid at k xs ys)))
    (take-put_mid_below _ _ _ _ _ (le_refl _) within)
    ∙ ap (λ (l : List ℕ). take at xs ++ take n l)
    (drop_at (take at xs) rest at (length-take-le at xs within))
    ∙ ap (take at xs ++◌) (take-append-le n ys (post_of at k xs) fits))

pub loop-len-init : goal.loop-len-init
loop-len-init g c =
    record {
      long = refl;
      within = omega arith;
      given = none_given (g.R.Read.remaining c.args.from.now);
    }

pub loop-len-preserved : goal.loop-len-preserved
loop-len-preserved g c =
    let at = c.loop-len.len in
    let k = length c.loop-len.space - at in
    record {
      long = search rules;
      within = search rules;
      given =
          subst (Consumes _ _)
          (front at k c.in_ok-n.n c.loop-len.space c.read.new.buf c.loop-len.invariant.within
          c.in_ok-n.ensures.bound.0)
          (Consumes-trans _ _ _ _ _ c.loop-len.invariant.given c.in_ok-n.ensures.bytes.0);
    }
