-- The nodes of a writer when diagrams and nodes are added.
use Rattle.std.proofs.Common.{◌≡◌, ℕ, ◌<◌, ⊎_elim, List, length, sym, subst, arith}
use Rattle.kat_model.specs.Members.{HasNoDoubles}
use Rattle.outline_rules.specs.StepFunctions.{StepDiagramsParts, KeepsSteps}
use Rattle.outline_rules.specs.declared.notes.NoteNode.{NoteNode}
use Rattle.outline_rules.specs.declared.notes.NoteNode.TheVariants.{False, True, Branch}
use Rattle.hoare_outlines.specs.declared.noting.NodeWriter.{NodeWriter}
use Rattle.hoare_outlines.specs.Working.Noted.{AreNoteNodes, AreKnown, IsNodeWriter, AddsNode}
use Rattle.hoare_outlines.proofs.NodeLists.{adds_one, adds_itself, NamesBelow, HasTestIn, nodes_with, known_later}

pub writer_kept : (old new : StepDiagramsParts) (w : NodeWriter) → KeepsSteps old new → IsNodeWriter old w → IsNodeWriter new w
writer_kept old new w kept is =
    record {
      nodes = subst (λ n. AreNoteNodes n w.nodes.keys) (sym kept.tests) is.nodes;
      known = known_later old new w.nodes.keys w.nodes.keys kept (adds_itself w.nodes.keys) w.known.entries is.known;
    }

pub writer_with : (old new : StepDiagramsParts) (v w : NodeWriter) (node : NoteNode) → KeepsSteps old new → AddsNode v.nodes.keys w.nodes.keys node → HasNoDoubles w.nodes.keys → NamesBelow (length v.nodes.keys) node → HasTestIn old.tests node → w.known.entries ≡ v.known.entries
    → IsNodeWriter old v → IsNodeWriter new w
writer_with old new v w node kept adds once names test same is =
    record {
      nodes = subst (λ n. AreNoteNodes n w.nodes.keys) (sym kept.tests) (nodes_with old.tests v.nodes.keys w.nodes.keys node adds once names test is.nodes);
      known = subst (λ (l : List (ℕ × ℕ)). AreKnown new w.nodes.keys l) (sym same) (known_later old new v.nodes.keys w.nodes.keys kept (adds_one v.nodes.keys w.nodes.keys node adds) v.known.entries is.known);
    }

-- a constant names no node and has no test
pub writer_true : (old new : StepDiagramsParts) (v w : NodeWriter) → KeepsSteps old new → AddsNode v.nodes.keys w.nodes.keys True → HasNoDoubles w.nodes.keys → w.known.entries ≡ v.known.entries → IsNodeWriter old v → IsNodeWriter new w
writer_true old new v w kept adds once same is = writer_with old new v w True kept adds once (λ part h. absurd h) (λ t low high e. cc) same is

pub writer_false : (old new : StepDiagramsParts) (v w : NodeWriter) → KeepsSteps old new → AddsNode v.nodes.keys w.nodes.keys False → HasNoDoubles w.nodes.keys → w.known.entries ≡ v.known.entries → IsNodeWriter old v → IsNodeWriter new w
writer_false old new v w kept adds once same is = writer_with old new v w False kept adds once (λ part h. absurd h) (λ t low high e. cc) same is

-- a branch names existing nodes and is on a test of the problem
pub writer_branch : (old new : StepDiagramsParts) (v w : NodeWriter) (test low high : ℕ) → KeepsSteps old new → AddsNode v.nodes.keys w.nodes.keys (Branch test low high) → HasNoDoubles w.nodes.keys → test < old.tests → low < length v.nodes.keys → high < length v.nodes.keys
    → w.known.entries ≡ v.known.entries → IsNodeWriter old v → IsNodeWriter new w
writer_branch old new v w test low high kept adds once lt low_in high_in same is =
    writer_with old new v w (Branch test low high) kept adds once
    (λ part h. ⊎_elim (λ e. subst (λ k. k < length v.nodes.keys) e low_in) (λ m. ⊎_elim (λ e. subst (λ k. k < length v.nodes.keys) e high_in) absurd m) h)
    (λ t l h e. let same_test : test ≡ t = cc in omega (arith, same_test, lt))
    same is
