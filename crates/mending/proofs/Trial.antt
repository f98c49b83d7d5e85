-- The trial at each way out: the image with the lower G passed the check and stays, or the old G
-- is written back.
use Prim.Native.Nat.{ℕ, ◌+◌, ◌-◌, ◌≤◌}
use mathlib.Core.Path.{◌≡◌, ◌∙◌}
use mathlib.Core.List.{List}
use lib.ListN.{length}
use Rattle.std.specs.Prelude.{Ok, Err}
use Rattle.field.specs.Field.{Bytes}
use Rattle.head.specs.declared.Head.{Head}
use Rattle.head.specs.Fields.{total_at, total_len, head_of, put_total}
use Rattle.head.proofs.Fields.{total_back}
use Rattle.alphabet.specs.declared.codes.Codes.{Codes}
use Rattle.paper.specs.declared.Refusal.{Refusal}
use Rattle.paper.specs.Answers.{row_of}
use Rattle.audit.specs.Audit.{Checked}
use Rattle.mending.specs.Trial.{Lowers}

module _ {l lowered work work' : List ℕ} {p : ℕ} {codes : Codes}
    (low : lowered ≡ put_total l (p - 1)) where
  pub trial_passed : {h : Head} → Checked lowered work (Ok h) work' codes
      → Lowers l work p (Ok tt) lowered work'
  unfolding row_of
  trial_passed o =
      record {
        verdict = rw low at o.verdict;
        numbers = rw low at o.numbers;
        lowered = low;
        kept = tt;
      }

  pub trial_refused : {why : Refusal} → Checked lowered work (Err why) work' codes → Bytes l
      → total_at + total_len ≤ length l → {total : ℕ} {last : List ℕ}
      → total ≡ (head_of l).g → last ≡ put_total lowered total
      → Lowers l work p (Err why) last work'
  unfolding row_of
  trial_refused o bytes long t w =
      record {
        verdict = rw low at o.verdict;
        numbers = rw low at o.numbers;
        lowered = tt;
        kept = w ∙ rw (low, t) (total_back l (p - 1) bytes long);
      }
