use Rattle.std.proofs.Common.{ℕ, ◌+◌, refl, ap, ◌∙◌, cond, nat_eq, arith, take}
use Rattle.std.proofs.lemmas.Option.{slice_get_read}
use Rattle.lrat_checker.specs.Propagation.{Entry, present}
use Rattle.lrat_checker.specs.Accepted.{numbered}
use Rattle.lrat_checker.proofs.KnownEntries.{put_entry, numbered_more}
use Rattle.lrat_checker.proofs.known.KnownClauses.of.Goals as goal

pub loop-clause-preserved : goal.loop-clause-preserved
loop-clause-preserved c =
    let clauses = c.args.clauses.now in
    let i = c.loop-clause.clause-index in
    let item = c.clause-item.result in
    let here = slice_get_read clauses _ i item refl (omega arith) c.clause-item.is in
    record {
      count = omega (arith, c.loop-clause.invariant.count);
      entries = λ n.
          put_entry c.loop-clause.entries c.insert.new.self (c.loop-clause.greatest + 1) _ c.in_ok-insert.ensures.updates n
          ∙ ap (λ (o : Entry). cond (nat_eq (c.loop-clause.greatest + 1) n) (present item) o) (c.loop-clause.invariant.entries n)
          ∙ ap (λ (g : ℕ). cond (nat_eq (g + 1) n) (present item) (numbered (take i clauses) n)) c.loop-clause.invariant.count
          ∙ numbered_more clauses i item here n;
    }
