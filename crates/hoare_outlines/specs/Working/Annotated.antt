-- Sets of atoms at the places of a program that meet the rules of outlines, by the form of the program.
use Rattle.std.specs.Prelude.{◌≡◌, ℕ, false, List, [], ◌∷◌, ◌++◌, length, IsTrue}
use Rattle.kat_model.specs.Trees.{TestTree, top, complement}
use Rattle.kat_model.specs.Problems.{ProblemParts}
use Rattle.kat_model.specs.Steps.{Atom, truth}
use Rattle.goal_forms.specs.TestTerms.{IsAllowed, IsRuledOut}
use Rattle.while_lang.specs.Flows.{FlowTree, FlowStmt, empty, skip_then, abort_then, assert_then, act_then, branch_then, loop_then, skip, abort, assert, act, branch, loop}
use Rattle.hoare_outlines.specs.Working.AtomSets.{AtomSet}

-- every allowed atom of the first set at which the test is true is in the second set
abbrev pub ImpliesUnder : ProblemParts → AtomSet → TestTree → AtomSet → Type 0
ImpliesUnder q X b Y = (atom : Atom) → length atom ≡ q.tests → IsAllowed q.hyps atom → IsTrue (X atom) → IsTrue (truth b atom) → IsTrue (Y atom)

-- the action leads from the first set only to the second
abbrev pub LeadsInto : ProblemParts → AtomSet → ℕ → AtomSet → Type 0
LeadsInto q X a Y =
    (before after : Atom) → length before ≡ q.tests → length after ≡ q.tests → IsAllowed q.hyps before → IsAllowed q.hyps after → IsTrue (X before) → Y after ≡ false → IsRuledOut q.hyps a before after

-- a relation between the set before a part of a program, the sets at the places within it in order, and the set after
-- it
abbrev pub Annotation : Type 1
Annotation = AtomSet → List AtomSet → AtomSet → Type 0

-- there are no places within, and the rule relates the sets before and after
abbrev pub Plain : (AtomSet → AtomSet → Type 0) → Annotation
Plain Rule X inner Z = (inner ≡ []) × Rule X Z

pub record BranchSets (q : ProblemParts) (b : TestTree) (First Second : Annotation) (X : AtomSet) (inner : List AtomSet) (Z : AtomSet) : Type 0 where
  pub first : AtomSet
  pub firsts : List AtomSet
  pub first_end : AtomSet
  pub second : AtomSet
  pub seconds : List AtomSet
  pub second_end : AtomSet
  pub within : inner ≡ first ∷ (firsts ++ second ∷ seconds)
  pub enters_first : ImpliesUnder q X b first
  pub runs_first : First first firsts first_end
  pub enters_second : ImpliesUnder q X (complement b) second
  pub runs_second : Second second seconds second_end
  pub leaves_first : ImpliesUnder q first_end top Z
  pub leaves_second : ImpliesUnder q second_end top Z

pub record LoopSets (q : ProblemParts) (b : TestTree) (Body : Annotation) (X : AtomSet) (inner : List AtomSet) (Z : AtomSet) : Type 0 where
  pub invariant : AtomSet
  pub body : AtomSet
  pub bodies : List AtomSet
  pub body_end : AtomSet
  pub within : inner ≡ invariant ∷ body ∷ bodies
  pub enters : ImpliesUnder q X top invariant
  pub turns : ImpliesUnder q invariant b body
  pub runs : Body body bodies body_end
  pub returns : ImpliesUnder q body_end top invariant
  pub leaves : ImpliesUnder q invariant (complement b) Z

-- a statement, then the other statements
pub record ThenSets (Stmt Rest : Annotation) (X : AtomSet) (sets : List AtomSet) (Y : AtomSet) : Type 0 where
  pub inner : List AtomSet
  pub next : AtomSet
  pub more : List AtomSet
  pub all : sets ≡ inner ++ next ∷ more
  pub stmt : Stmt X inner next
  pub rest : Rest next more Y

-- the sets at the places of a list of statements, except its first place
abbrev pub Annotated : ProblemParts → FlowTree → Annotation
Annotated q empty X sets Y = (sets ≡ []) × (X ≡ Y)
Annotated q (skip_then rest) X sets Y = ThenSets (Plain (λ V W. ImpliesUnder q V top W)) (Annotated q rest) X sets Y
Annotated q (abort_then rest) X sets Y = ThenSets (Plain (λ V W. Unit {0})) (Annotated q rest) X sets Y
Annotated q (assert_then b rest) X sets Y = ThenSets (Plain (λ V W. ImpliesUnder q V b W)) (Annotated q rest) X sets Y
Annotated q (act_then a rest) X sets Y = ThenSets (Plain (λ V W. LeadsInto q V a W)) (Annotated q rest) X sets Y
Annotated q (branch_then b f g rest) X sets Y = ThenSets (BranchSets q b (Annotated q f) (Annotated q g)) (Annotated q rest) X sets Y
Annotated q (loop_then b f rest) X sets Y = ThenSets (LoopSets q b (Annotated q f)) (Annotated q rest) X sets Y

-- the sets at the places within a statement
abbrev pub StmtAnnotated : ProblemParts → FlowStmt → Annotation
StmtAnnotated q skip = Plain (λ V W. ImpliesUnder q V top W)
StmtAnnotated q abort = Plain (λ V W. Unit {0})
StmtAnnotated q (assert b) = Plain (λ V W. ImpliesUnder q V b W)
StmtAnnotated q (act a) = Plain (λ V W. LeadsInto q V a W)
StmtAnnotated q (branch b f g) = BranchSets q b (Annotated q f) (Annotated q g)
StmtAnnotated q (loop b f) = LoopSets q b (Annotated q f)
