-- `tracking::store_counted` meets its contract: every refusal is judged before a byte is
-- written. Then the counts changed along the key's path are those of the image after the store.
-- Assumes nothing.
use mathlib.Core.Path.{◌≡◌, sym, ◌∙◌}
use mathlib.Core.Option.{none}
use mir.Syntax.{w32}
use mir.Facts.{to_z-of_z}
use borrow.Author.Rules.{rules, sfits_of}
use lib.ListN.{length}
use Rattle.std.specs.Prelude.{Ok}
use Rattle.std.proofs.lemmas.Result.{err_from_is_err_and}
use Rattle.node.specs.Image.{table_of}
use Rattle.paper.specs.Hearing.{first}
use Rattle.paper.specs.Orders.{adding_rows}
use Rattle.paper.proofs.Hearing.{told_refused, told_passed}
use Rattle.key.specs.Hand.{letters_of}
use Rattle.walk.specs.Descent.{at_root, walked_from}
use Rattle.storing.specs.StoreStage.{Ends}
use Rattle.storing.proofs.StoreStage.{ends, never_bad}
use Rattle.tracking.proofs.Tracking.{Hand, refused, too_few, allows, last_fits, grown_open}
use Rattle.tracking.proofs.Tracking.{carry_rules, carry_whole, carry_fit, done}
use Rattle.tracking.proofs.store_counted.Goals as goal
use Rattle.tracking.proofs.store_counted.Goals.{In_ok-walked, After-new_count-new}
use Rattle.tracking.proofs.store_counted.Goals.{In_ok-judge}

-- the walk is in the table of the image; an accepted image has no bad link
pub returns-in_err-walked : goal.returns-in_err-walked
returns-in_err-walked c =
    let on = sym c.in_err-walked.was ∙ c.walk.ensures in
    absurd (never_bad c.requires.accepted c.requires.own (letters_of c.args.asked.key)
    (rw (c.of.ensures.head, c.of.ensures.bytes) at on))

walked : (c : In_ok-walked) → let a = c.args in
    Ok c.in_ok-walked.walked
    ≡ walked_from a.asked.head.g (table_of a.asked.head a.image.now) at_root
    (letters_of a.asked.key)
walked c =
    let on = sym c.in_ok-walked.was ∙ c.walk.ensures in
    rw (c.of.ensures.head, c.of.ensures.bytes) at on

-- how the walk ended
ended : (c : In_ok-walked) → let a = c.args in Ends a.asked.head a.asked.key c.in_ok-walked.walked
ended c =
    let x = c.args.asked in
    ends c.requires.accepted c.requires.own x.key (search rules) x.ready.short _ (walked c)

pub new_count-new-requires : goal.new_count-new-requires
new_count-new-requires c =
    record { ends = ended (goal.at.new_count-new-requires c).In_ok-walked }

-- what is known once the new nodes are counted
hand : (c : After-new_count-new)
    → let a = c.args in
    Hand a.image.now a.asked.head a.asked.key c.in_ok-walked.walked a.value c.new_count-new.result
hand c =
    let on = sym c.in_ok-walked.was ∙ c.walk.ensures in
    record {
      accepted = c.requires.accepted;
      same = c.requires.own;
      ready = c.args.asked.ready;
      allowed = c.requires.allowed;
      walked = rw (c.of.ensures.head, c.of.ensures.bytes) at on;
      count = c.new_count-new.ensures.added;
    }

-- 11, 12 and 13 have passed
passed : (c : In_ok-judge)
    → let a = c.args in
    first (adding_rows a.asked.head a.value c.new_count-new.result (length a.image.now)) ≡ none
passed c = told_passed c.judge.ensures c.in_ok-judge.was

pub returns-in_err-judge : goal.returns-in_err-judge
returns-in_err-judge c =
    let p = err_from_is_err_and c.from_residual-in_err-judge.result
    c.from_residual-in_err-judge.ensures.1 in
    rw (p.1, p.2)
    (refused (hand (goal.at.returns-in_err-judge c).After-new_count-new) _ _
    (told_refused c.judge.ensures c.in_err-judge.was))

pub returns-then-counts-last : goal.returns-then-counts-last
returns-then-counts-last c =
    too_few (hand (goal.at.returns-then-counts-last c).After-new_count-new)
    (passed (goal.at.returns-then-counts-last c).In_ok-judge) _ c.if-counts-last.true

pub write_at-change-requires-clause-ends : goal.write_at-change-requires-clause-ends
write_at-change-requires-clause-ends c =
    ended (goal.at.write_at-change-requires-clause-ends c).In_ok-walked

pub write_at-change-requires-clause-unrefused : goal.write_at-change-requires-clause-unrefused
write_at-change-requires-clause-unrefused c =
    let at = goal.at.write_at-change-requires-clause-unrefused c in
    allows (hand at.After-new_count-new) (passed at.In_ok-judge)

pub overflow_cast-grown : goal.overflow_cast-grown
overflow_cast-grown c =
    let at = goal.at.overflow_cast-grown c in
    record { fits = last_fits (hand at.After-new_count-new) (passed at.In_ok-judge) }

pub of-requires-2 : goal.of-requires-2
of-requires-2 c =
    let at = goal.at.of-requires-2 c in
    grown_open (hand at.After-new_count-new) (passed at.In_ok-judge)
    c.write_at-change.ensures.image_after

pub carry-requires : goal.carry-requires
carry-requires c =
    let at = goal.at.carry-requires c in
    let x = hand at.After-new_count-new in
    let passes = passed at.In_ok-judge in
    let wrote = c.write_at-change.ensures.image_after in
    let told = to_z-of_z {w = w32} (sfits_of c.write_at-change.type_inv)
    ∙ c.write_at-change.ensures.value in
    let right = c.requires.right in
    let clear = c.clear.ensures in
    let long = c.if-counts-last.false in
    let grown = c.of-2.ensures in
    record {
      ready = search rules;
      rules = carry_rules x passes wrote told right clear long grown.head grown.bytes;
      room = search rules;
      whole = carry_whole x passes wrote told right clear long grown.head grown.bytes;
      fit = carry_fit x passes wrote told right clear long grown.head grown.bytes;
    }

pub returns : goal.returns
returns c =
    let at = goal.at.returns c in
    let told = to_z-of_z {w = w32} (sfits_of c.write_at-change.type_inv)
    ∙ c.write_at-change.ensures.value in
    done (hand at.After-new_count-new) (passed at.In_ok-judge)
    c.write_at-change.ensures.image_after told c.requires.right c.clear.ensures
    c.if-counts-last.false c.of-2.ensures.head c.of-2.ensures.bytes c.carry.ensures
