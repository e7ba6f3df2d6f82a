use Rattle.std.proofs.Common.{ap, sym, subst, arith}
use Rattle.kat_model.specs.Relations.{Table}
use Rattle.string_tables.specs.Tables.{Room, IsWhole}
use Rattle.string_tables.proofs.Counterexamples.{whole_table}
use Rattle.tests_prover.proofs.strings.leads_on.Goals as goal

pub relates-requires-clause-queried : goal.relates-requires-clause-queried
relates-requires-clause-queried c =
    record {
      whole = subst IsWhole (sym c.in_ok-table.ensures) (whole_table _);
      states = omega (arith, ap (λ (r : Room). r.states) c.in_ok-bench.ensures, ap (λ (t : Table). t.states) c.table.view_is);
      height = omega (arith, ap (λ (r : Room). r.depth) c.in_ok-bench.ensures);
      tests = λ i lt. record {};
    }
