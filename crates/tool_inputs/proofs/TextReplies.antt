-- The parts of a reply to a text that has a question, or has none, combined.
use Rattle.std.proofs.Common.{ℕ, List, Result, Ok, Err, inl, inr, subst}
use Rattle.kat_model.specs.Problems.{ProblemParts}
use Rattle.while_lang.specs.Files.{FileParts}
use Rattle.problem_file.specs.Reads.{Reads}
use Rattle.tool_inputs.specs.declared.reply.EarlyEnd.{EarlyEnd}
use Rattle.tool_inputs.specs.FileProblem.{Poses}
use Rattle.tool_inputs.specs.TextProblem.{HasNoAbstraction, HasNoProblem}
use Rattle.tool_inputs.specs.Steps.{ReplySpec, IsRefusal, PosesText, PosesFor}
use Rattle.tool_inputs.specs.ReplySpecs.{Yields, IsQuestionOf, IsPosedBy}
use Rattle.tool_inputs.proofs.ReplySpecs.{EndsWith-weaker}

-- the question of the file of a text is the problem that the text poses
pub file_poses : (text : List ℕ) (f : FileParts) → Reads text f → (result : Result ProblemParts EarlyEnd) → Yields (IsQuestionOf f) (IsRefusal (HasNoAbstraction f)) result → IsPosedBy text result
file_poses text f reads (Ok q) h = record { file = f; reads = reads; abstract = h.0; is_abstract = h.1; question = h.2 }
file_poses text f reads (Err stop) h = EndsWith-weaker (IsRefusal (HasNoAbstraction f)) (IsRefusal (HasNoProblem text)) (λ status output r. (r.0, inr (f, reads, r.1))) stop h

-- a text that poses no problem is refused; for any other text, the reply is that to its problem
module _ (text : List ℕ) (GoesOn : ProblemParts → ReplySpec) where
  pub text_refused : (status : ℕ) (output : List ℕ) → IsRefusal (HasNoProblem text) status output → PosesText text GoesOn status output
  text_refused status output (two, inl f) = inl (two, f)
  text_refused status output (two, inr (a, denotes, n)) = inr (a, denotes, inl (two, n))

  pub text_posed : (status : ℕ) (output : List ℕ) (q : ProblemParts) → Poses text q → GoesOn q status output → PosesText text GoesOn status output
  text_posed status output q poses r = inr (poses.file, poses.reads, inr (poses.abstract, poses.is_abstract, subst (λ p. GoesOn p status output) poses.question r))

  pub posed_text : (status : ℕ) (output : List ℕ) → PosesFor (HasNoProblem text) (Poses text) GoesOn status output → PosesText text GoesOn status output
  posed_text status output (inl r) = text_refused status output r
  posed_text status output (inr (q, poses, g)) = text_posed status output q poses g
