-- What the steps of a log preserve.
use Rattle.std.proofs.Common.{List, [], ◌∷◌, subst}
use Rattle.while_lang.specs.Files.{FileParts}
use Rattle.while_lang.specs.Programs.{ProgTree, stmts_of}
use Rattle.optimiser_steps.specs.Logs.{LogLineParts, FirstStep, IsLog}
use Rattle.optimiser_steps.specs.Meanings.{HasProgInRange}
use Rattle.optimiser_steps.specs.Laws.{LogsKeep}
use Rattle.optimiser_steps.proofs.RangesKept.{stmts_in, prog_in, steps_at_in}
use Rattle.optimiser_steps.proofs.TableMeanings.{step_keeps_in_tables}
use Rattle.optimiser_steps.proofs.StoreMeanings.{step_keeps_from_stores}

pub step_in_range : (f : FileParts) (p q : ProgTree) (line : LogLineParts) → HasProgInRange f p → FirstStep f p line q → HasProgInRange f q
step_in_range f p q line range first =
    record { hyps = range.hyps; prog = prog_in f q (steps_at_in f line.step line.path (stmts_of p) (stmts_of q) first.made (stmts_in f p range.prog)) }

nothing_kept : (f : FileParts) (p : ProgTree) → HasProgInRange f p → LogsKeep f p [] p
nothing_kept f p range = record {
  range = range;
  in_tables = λ none t is keeps i j si sj. ((λ r. r), (λ r. r));
  from_stores = λ tests actions terms hyps s u ss su. ((λ g. g), (λ g. g));
}

pub logs_keep : (f : FileParts) (p q : ProgTree) (log : List LogLineParts) → HasProgInRange f p → IsLog f p log q → LogsKeep f p log q
logs_keep f p q [] range e = subst (LogsKeep f p []) e (nothing_kept f p range)
logs_keep f p q (line ∷ log) range (r, first, rest) =
    let later = logs_keep f r q log (step_in_range f p r line range first) rest in
    record {
      range = later.range;
      in_tables = λ none t is keeps i j si sj.
          let a = step_keeps_in_tables f p r line range.prog first none t is keeps i j si sj in
          let b = later.in_tables none t is keeps i j si sj in
          ((λ x. b.0 (a.0 x)), (λ x. a.1 (b.1 x)));
      from_stores = λ tests actions terms hyps s u ss su.
          let a = step_keeps_from_stores f p r line range.hyps range.prog first tests actions terms hyps s u ss su in
          let b = later.from_stores tests actions terms hyps s u ss su in
          ((λ x. b.0 (a.0 x)), (λ x. a.1 (b.1 x)));
    }
