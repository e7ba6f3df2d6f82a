-- `chain`: its reply to a text and a proof, and what that says of the question.
use Rattle.std.specs.Prelude.{◌≡◌, ◌⊎◌, ◌↔◌, ℕ, List, [], ◌∷◌, ◌++◌, Ok, codes}
use Rattle.std.specs.Fmt.{decimal}
use Rattle.kat_model.specs.Problems.{ProblemParts}
use Rattle.kat_model.specs.Relations.{Same}
use Rattle.text_parser.specs.declared.fault.TextFault.{TextFault}
use Rattle.kat_report.specs.Refusals.{fault_word, fault_place, place_text}
use Rattle.while_lang.specs.Files.{FileParts}
use Rattle.problem_file.specs.Reads.{Reads}
use Rattle.while_lang.specs.Concrete.{IsConcrete, Agrees}
use Rattle.abstraction.specs.Abstracts.{AbstractParts, abstract_of}
use Rattle.abstraction.specs.Readings.{Reading, KeepsStated, GoalHoldsBy}
use Rattle.chain_rules.specs.Chains.{ChainTree}
use Rattle.chain_rules.specs.Chained.{IsChained, IsReason}
use Rattle.chain_rules.specs.declared.answer.ChainReason.{ChainReason}
use Rattle.chain_rules.specs.declared.answer.ChainReason.TheVariants.{Start, End, Step}
use Rattle.chain_proofs.specs.Reads.{Reads as ReadsProof, FirstFault}
use Rattle.tool_inputs.specs.FileProblem.{Poses}
use Rattle.tool_inputs.specs.TextProblem.{HasNoProblem}
use Rattle.tool_inputs.specs.Steps.{ReplySpec, IsRefusal, PosesText}

-- ---- its lines

-- the line for an accepted proof
abbrev pub accepted_chain_line : List ℕ
accepted_chain_line = codes "accepted chain\n"

-- for the text of a proof with a fault: `refused: chain WORD`, the place, and a line feed
abbrev pub chain_fault_line : TextFault → List ℕ
chain_fault_line fault = codes "refused: chain " ++ fault_word fault ++ place_text (fault_place fault) ++ 10 ∷ []

-- for the file of a proof that has more bytes than the limit
abbrev pub long_proof_line : List ℕ
long_proof_line = codes "refused: chain TooLong\n"

-- for a rejected proof: the word of the reason, and the number of the line that does not hold
abbrev pub chain_reason_line : ChainReason → List ℕ
chain_reason_line Start = codes "rejected: chain Start\n"
chain_reason_line End = codes "rejected: chain End\n"
chain_reason_line (Step n) = codes "rejected: chain Step " ++ decimal n ++ codes "\n"

-- ---- the reply

-- the bytes spell this chain over the tests and actions of the question
abbrev pub SpellsChain : ProblemParts → List ℕ → ChainTree → Type 0
SpellsChain q bytes c = ReadsProof q.tests q.actions bytes c

-- the bytes spell no chain, and this is their first fault
abbrev pub HasFault : ProblemParts → List ℕ → TextFault → Type 0
HasFault q bytes fault = FirstFault q.tests q.actions bytes fault

-- the bytes spell no chain, and their first fault is printed
pub record IsNoChain (q : ProblemParts) (bytes output : List ℕ) : Type 0 where
  pub fault : TextFault
  pub first : HasFault q bytes fault
  pub printed : output ≡ chain_fault_line fault

-- the text of a proof is read: it has a first fault, or the command continues with the chain that it spells
abbrev pub ReadsChain : ProblemParts → List ℕ → (ChainTree → ReplySpec) → ReplySpec
ReadsChain q bytes GoesOn status output = IsRefusal (IsNoChain q bytes) status output ⊎ ((c : ChainTree) × SpellsChain q bytes c × GoesOn c status output)

-- the chain is a proof, so both sides are the same
pub record IsProving (q : ProblemParts) (c : ChainTree) (status : ℕ) (output : List ℕ) : Type 0 where
  pub chained : IsChained q c
  pub same : Same q
  pub has_status : status ≡ 0
  pub printed : output ≡ accepted_chain_line

-- the chain is not a proof, and the first reason is printed
pub record IsUnproving (q : ProblemParts) (c : ChainTree) (status : ℕ) (output : List ℕ) : Type 0 where
  pub fails : IsChained q c → ⊥
  pub reason : ChainReason
  pub first : IsReason q c reason
  pub has_status : status ≡ 3
  pub printed : output ≡ chain_reason_line reason

-- the reply to a problem and a chain
abbrev pub IsProved : ProblemParts → ChainTree → ReplySpec
IsProved q c status output = IsProving q c status output ⊎ IsUnproving q c status output

-- the steps of the reply to a problem and bytes, and to two texts
abbrev pub ProvesBytes : ProblemParts → List ℕ → ReplySpec
ProvesBytes q bytes = ReadsChain q bytes (IsProved q)

abbrev pub ProvesTexts : List ℕ → List ℕ → ReplySpec
ProvesTexts text bytes = PosesText text (λ q. ProvesBytes q bytes)

-- The status is 0 exactly when the bytes spell a chain that is a proof of the question, 2 exactly when they spell no
-- chain, and 3 exactly when they spell a chain that is not a proof.
pub record ChainStatus (bytes : List ℕ) (q : ProblemParts) (status : ℕ) : Type 0 where
  pub answers : (status ≡ 0) ⊎ ((status ≡ 2) ⊎ (status ≡ 3))
  pub proved : (status ≡ 0) ↔ ((c : ChainTree) × SpellsChain q bytes c × IsChained q c)
  pub faulty : (status ≡ 2) ↔ ((fault : TextFault) × HasFault q bytes fault)
  pub rejected : (status ≡ 3) ↔ ((c : ChainTree) × SpellsChain q bytes c × (IsChained q c → ⊥))

-- The status is that of the bytes. If it is 0, both sides denote one relation in every table that satisfies the
-- hypotheses. The printed line accepts the chain, or gives the first fault of the bytes, or the first reason why their
-- chain is not a proof.
pub record ChainHeadline (bytes : List ℕ) (q : ProblemParts) (status : ℕ) (output : List ℕ) : Type 0 where
  pub answers : ChainStatus bytes q status
  pub same : status ≡ 0 → Same q
  pub accepted_line : status ≡ 0 → output ≡ accepted_chain_line
  pub fault_line : (fault : TextFault) → HasFault q bytes fault → output ≡ chain_fault_line fault
  pub reason_line : status ≡ 3 → (c : ChainTree) × (reason : ChainReason) × SpellsChain q bytes c × IsReason q c reason × (output ≡ chain_reason_line reason)

-- What a reply of `chain` says about its text and the bytes of a proof from any source. The headline holds for the
-- question of the text. If the file is concrete and the status is 0, its goal holds for all its stores; the goal of any
-- file holds for them under every reading of its declared tests and actions that satisfies its stated hypotheses. A text
-- without a question is refused with its line.
pub record ChainReply (text bytes : List ℕ) (status : ℕ) (output : List ℕ) : Type 0 where
  pub replies : ProvesTexts text bytes status output
  pub headline : (q : ProblemParts) → Poses text q → ChainHeadline bytes q status output
  pub stores : (f : FileParts) → Reads text f → IsConcrete f → status ≡ 0 → Agrees f
  pub readings : (f : FileParts) (a : AbstractParts) (r : Reading) → Reads text f → abstract_of f ≡ Ok a → KeepsStated f a r → status ≡ 0 → GoalHoldsBy f a r f.goal
  pub declined : (line : List ℕ) → HasNoProblem text line → (status ≡ 2) × (output ≡ line)
