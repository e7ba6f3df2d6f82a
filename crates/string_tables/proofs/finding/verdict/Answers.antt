use Rattle.std.proofs.Common.{sym, subst}
use Rattle.std.specs.Option.{MatchOption}
use Rattle.kat_model.specs.Relations.{Keeps}
use Rattle.string_tables.specs.Tables.{table_of}
use Rattle.string_tables.specs.Working.Breaks.{BreaksFirst}
use Rattle.string_tables.proofs.Querying.{hyps_read, left_read, right_read}
use Rattle.string_tables.proofs.Ends.{broken_first}
use Rattle.string_tables.proofs.finding.verdict.Goals as goal

pub first_broken-requires : goal.first_broken-requires
first_broken-requires c =
    rw c.hyps.ensures.value (hyps_read c.args.problem.now c.args.string.now c.hyps.ensures.within (sym c.in_default.ensures))

pub returns-in-Some-broken : goal.returns-in-Some-broken
returns-in-Some-broken c =
    let q = c.args.problem.now in
    let x = c.args.string.now in
    let found = subst (λ o. MatchOption o (Keeps (table_of x) q.hyps) (λ three. BreaksFirst (table_of x) q.hyps three.0 three.1 three.2)) c.in-Some-broken.is (rw c.hyps.ensures.value at c.in_ok-broken.ensures) in
    (sym c.in_default.ensures, broken_first q x _ _ _ found)

pub relates_ends-requires : goal.relates_ends-requires
relates_ends-requires c = rw c.left.ensures.value (left_read c.args.problem.now c.args.string.now c.hyps.ensures.within (sym c.in_default.ensures))

pub relates_ends-requires-2 : goal.relates_ends-requires-2
relates_ends-requires-2 c = rw c.right.ensures.value (right_read c.args.problem.now c.args.string.now c.hyps.ensures.within (sym c.in_default.ensures))
