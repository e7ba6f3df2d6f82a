-- The result of the finder for a statement, and for a statement before others.
use Rattle.std.proofs.Common.{ℕ, ⊎_elim, List, [], ◌∷◌, ◌++◌, false, not, ◌&&◌, ◌||◌, refl, sym, subst}
use Rattle.std.proofs.lemmas.Bool.{false≢true, and_parts, and_from, or_cases, or_left, or_right}
use Rattle.kat_model.specs.Trees.{TestTree, complement}
use Rattle.kat_model.specs.Problems.{ProblemParts}
use Rattle.kat_model.specs.Steps.{truth}
use Rattle.outline_rules.specs.StepFunctions.{StepDiagramsParts, KeepsSteps}
use Rattle.while_lang.specs.Flows.{FlowTree, FlowStmt, empty, skip, abort, assert, act as act_stmt, branch, loop, with_stmt}
use Rattle.while_lang.specs.Encoding.{stmt_terms}
use Rattle.hoare_outlines.specs.Working.AtomSets.{AtomSet, IsSetId, IsAllowedSet}
use Rattle.hoare_outlines.specs.Working.Annotated.{ThenSets, Annotated, StmtAnnotated}
use Rattle.hoare_outlines.specs.Working.Reached.{ReachedInTurn, stmt_term}
use Rattle.hoare_outlines.specs.Working.Found.{StmtFound, FlowFound}
use Rattle.hoare_outlines.proofs.SetIds.{set_kept, sets_kept, sets_append}
use Rattle.hoare_outlines.proofs.Reaching.{terms_then, reached_itself, reached_one, reached_zero, reached_test, reached_then, reached_under, reached_branch}

-- a statement before others, by the form of the statement
annotated_then : (q : ProblemParts) (s : FlowStmt) (rest : FlowTree) (X : AtomSet) (sets : List AtomSet) (Y : AtomSet) → ThenSets (StmtAnnotated q s) (Annotated q rest) X sets Y → Annotated q (with_stmt s rest) X sets Y
annotated_then q skip rest X sets Y h = h
annotated_then q abort rest X sets Y h = h
annotated_then q (assert b) rest X sets Y h = h
annotated_then q (act_stmt a) rest X sets Y h = h
annotated_then q (branch b f g) rest X sets Y h = h
annotated_then q (loop b f) rest X sets Y h = h

module _ (q : ProblemParts) where
  pub flow_none : (d : StepDiagramsParts) (X : AtomSet) (last : ℕ) → IsSetId d last X → IsAllowedSet q X → FlowFound q empty d X [] last
  flow_none d X last is allowed =
      record { sets = []; are_sets = tt; end = X; is_end = is; allowed = allowed; annotated = (refl, refl); reached = reached_itself q X allowed }

  pub flow_then : (s : FlowStmt) (rest : FlowTree) (mid d : StepDiagramsParts) (X : AtomSet) (ids more : List ℕ) (next last : ℕ) → KeepsSteps mid d → (found : StmtFound q s mid X ids next) → FlowFound q rest d found.end more last
      → FlowFound q (with_stmt s rest) d X (ids ++ next ∷ more) last
  flow_then s rest mid d X ids more next last kept found later =
      record {
        sets = found.sets ++ found.end ∷ later.sets;
        are_sets = sets_append d ids (next ∷ more) found.sets (found.end ∷ later.sets) (sets_kept mid d kept ids found.sets found.are_sets) (set_kept mid d kept next found.end found.is_end, later.are_sets);
        end = later.end;
        is_end = later.is_end;
        allowed = later.allowed;
        annotated = annotated_then q s rest X _ later.end (record { inner = found.sets; next = found.end; more = later.sets; all = refl; stmt = found.annotated; rest = later.annotated });
        reached = subst (λ es. ReachedInTurn q es X later.end) (sym (terms_then s rest)) (reached_then q (stmt_term s) (stmt_terms rest) X found.end later.end found.reached later.reached);
      }

  -- results stay valid when diagrams are added
  pub found_kept : (f : FlowTree) (old new : StepDiagramsParts) (X : AtomSet) (ids : List ℕ) (last : ℕ) → KeepsSteps old new → FlowFound q f old X ids last → FlowFound q f new X ids last
  found_kept f old new X ids last kept found =
      record {
        sets = found.sets;
        are_sets = sets_kept old new kept ids found.sets found.are_sets;
        end = found.end;
        is_end = set_kept old new kept last found.end found.is_end;
        allowed = found.allowed;
        annotated = found.annotated;
        reached = found.reached;
      }

  -- ---- statements without inner places

  pub skip_found : (d : StepDiagramsParts) (X : AtomSet) (set : ℕ) → IsSetId d set X → IsAllowedSet q X → StmtFound q skip d X [] set
  skip_found d X set is allowed =
      record { sets = []; are_sets = tt; end = X; is_end = is; allowed = allowed; annotated = (refl, (λ atom wide al h t. h)); reached = reached_one q X allowed }

  pub abort_found : (d : StepDiagramsParts) (X : AtomSet) (none : ℕ) → IsSetId d none (λ atom. false) → StmtFound q abort d X [] none
  abort_found d X none is =
      record { sets = []; are_sets = tt; end = λ atom. false; is_end = is; allowed = λ atom wide h. absurd (false≢true h); annotated = (refl, tt); reached = reached_zero q X (λ atom. false) (λ atom. refl) }

  pub part_allowed : (X Y : AtomSet) → IsAllowedSet q X → IsAllowedSet q (λ atom. X atom && Y atom)
  part_allowed X Y allowed atom wide h = allowed atom wide (and_parts (X atom) (Y atom) h).0

  pub union_allowed : (X Y : AtomSet) → IsAllowedSet q X → IsAllowedSet q Y → IsAllowedSet q (λ atom. X atom || Y atom)
  union_allowed X Y left right atom wide h = ⊎_elim (left atom wide) (right atom wide) (or_cases (X atom) (Y atom) h)

  pub assert_found : (d : StepDiagramsParts) (X : AtomSet) (b : TestTree) (holds : ℕ) → IsAllowedSet q X → IsSetId d holds (λ atom. X atom && truth b atom) → StmtFound q (assert b) d X [] holds
  assert_found d X b holds allowed is =
      record {
        sets = [];
        are_sets = tt;
        end = λ atom. X atom && truth b atom;
        is_end = is;
        allowed = part_allowed X (truth b) allowed;
        annotated = (refl, (λ atom wide al h t. and_from (X atom) (truth b atom) h t));
        reached = reached_test q X b allowed;
      }

  -- ---- a branch

  pub branch_found : (b : TestTree) (f g : FlowTree) (first_d second_d d : StepDiagramsParts) (X : AtomSet) (holds fails first second after : ℕ) (is js : List ℕ)
      → KeepsSteps first_d d → KeepsSteps second_d d → IsSetId first_d holds (λ atom. X atom && truth b atom) → IsSetId second_d fails (λ atom. X atom && not (truth b atom))
      → (p : FlowFound q f first_d (λ atom. X atom && truth b atom) is first) → (r : FlowFound q g second_d (λ atom. X atom && not (truth b atom)) js second)
      → IsSetId d after (λ atom. p.end atom || r.end atom) → StmtFound q (branch b f g) d X (holds ∷ (is ++ fails ∷ js)) after
  branch_found b f g first_d second_d d X holds fails first second after is js kept_first kept_second is_holds is_fails p r is_after =
      record {
        sets = (λ atom. X atom && truth b atom) ∷ (p.sets ++ (λ atom. X atom && not (truth b atom)) ∷ r.sets);
        are_sets = (
          set_kept first_d d kept_first holds _ is_holds,
          sets_append d is (fails ∷ js) p.sets ((λ atom. X atom && not (truth b atom)) ∷ r.sets) (sets_kept first_d d kept_first is p.sets p.are_sets)
              (set_kept second_d d kept_second fails _ is_fails, sets_kept second_d d kept_second js r.sets r.are_sets),
        );
        end = λ atom. p.end atom || r.end atom;
        is_end = is_after;
        allowed = union_allowed p.end r.end p.allowed r.allowed;
        annotated =
            record {
              first = λ atom. X atom && truth b atom;
              firsts = p.sets;
              first_end = p.end;
              second = λ atom. X atom && not (truth b atom);
              seconds = r.sets;
              second_end = r.end;
              within = refl;
              enters_first = λ atom wide al h t. and_from (X atom) (truth b atom) h t;
              runs_first = p.annotated;
              enters_second = λ atom wide al h t. and_from (X atom) (not (truth b atom)) h t;
              runs_second = r.annotated;
              leaves_first = λ atom wide al h t. or_left (p.end atom) (r.end atom) h;
              leaves_second = λ atom wide al h t. or_right (p.end atom) (r.end atom) h;
            };
        reached =
            reached_branch q b f g X p.end r.end
            (reached_under q b f X p.end p.allowed p.reached)
            (reached_under q (complement b) g X r.end r.allowed r.reached);
      }
