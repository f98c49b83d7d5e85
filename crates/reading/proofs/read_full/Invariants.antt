use Rattle.std.proofs.Common.{◌-◌, ◌≡◌, ◌≤◌, length, take}
use Rattle.std.specs.Io.KnownBytes.{Consumes}
use Rattle.reading.proofs.read_full.Given as goal

abbrev pub invariant-loop-len : goal.invariant-loop-len
invariant-loop-len g l =
    record {
      long : length l.space ≡ length l.initial.space;
      within : l.len ≤ length l.space;
      given :
          Consumes (g.R.Read.remaining l.initial.from) (g.R.Read.remaining l.from)
          (take l.len l.space);
    }

abbrev pub decreases-loop-len : goal.decreases-loop-len
decreases-loop-len g l = length l.initial.space - l.len
