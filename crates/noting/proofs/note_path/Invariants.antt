use Rattle.noting.proofs.NotedPath.{Noting}
use Rattle.noting.proofs.note_path.Given as goal

abbrev pub invariant-loop-i : goal.invariant-loop-i
invariant-loop-i l = Noting l.nodes l.width l.initial.place l.initial.writes l.writes l.i l.place
