-- The result of the token checks is the answer to a text.
use Rattle.std.proofs.Common.{◌≡◌, ◌⊎◌, ℕ, List, map, length, slice_get, get_or, Some, Result, Ok, Err, IfErr, MatchResult, Vec, ap, subst, ◌∙◌}
use Rattle.std.specs.Option.{option_map}
use Rattle.std.proofs.lemmas.Option.{slice_get-map, slice_get_within, get_or_from_slice_get}
use Rattle.text_parser.specs.declared.token.Token.{Token}
use Rattle.std.specs.declared.alloc.Global.{Global}
use Rattle.text_parser.specs.declared.fault.TextFault.{TextFault}
use Rattle.text_parser.specs.declared.fault.TextFault.TheVariants.{NoMemory}
use Rattle.text_parser.specs.TokenParts.{parts_of_tokens, parts_of_token}
use Rattle.text_parser.specs.Lex.{Lexes, IsSlice}
use Rattle.text_parser.proofs.Slices.{slices_from}
use Rattle.text_parser.specs.Lexemes.{lexemes}
use Rattle.text_parser.specs.Parsed.{Makes}
use Rattle.problem_file.specs.Tokens.{AreTokens}
use Rattle.while_lang.specs.declared.file.Goal.{Goal}
use Rattle.problem_file.specs.declared.goal_limit.GoalLimit.{GoalLimit}
use Rattle.problem_file.specs.declared.goal_limit.GoalLimit.TheVariants.{Batch}
use Rattle.while_lang.specs.Files.{GoalTree, FileParts}
use Rattle.while_lang.specs.Trees.{goal_tree}
use Rattle.problem_file.specs.Reads.{Denotes, ReadsAll, HasFirstFault, FirstFaultOfAll, tested}
use Rattle.problem_file.specs.Working.Files.{AreDenoted, AnswersFor}
use Rattle.problem_file.proofs.TextAnswers.{no_fault as none_given}
use Rattle.problem_file.proofs.OneAnswer.{denoted, tested_denotes, denotes_given}

-- each token of a text is valid for its kind
pub lexed_tokens : (text : List ℕ) (ts : List Token) → Lexes text (parts_of_tokens ts) → AreTokens ts
lexed_tokens text ts lexes i t e =
    let ms = parts_of_tokens ts in
    let there : slice_get ms i ≡ Some (parts_of_token t) = slice_get-map parts_of_token ts i ∙ ap (option_map parts_of_token) e in
    let slice = slices_from text 0 ms (length text) lexes.tokens i (parts_of_token t) (slice_get_within ms i (parts_of_token t) there) in
    let same : get_or ms i (parts_of_token t) ≡ parts_of_token t = get_or_from_slice_get ms i (parts_of_token t) (parts_of_token t) there in
    (subst (IsSlice text) same slice).is_token

-- a file and the goals after it, as trees
abbrev pub with_trees : FileParts × Vec Goal Global → FileParts × List GoalTree
with_trees x = (x.0, map goal_tree x.1.items)

module _ (limit : GoalLimit) (text : List ℕ) where
  pub file_given : (ts : List Token) (x : FileParts × Vec Goal Global) → Lexes text (parts_of_tokens ts) → Makes (Unit {0}) with_trees (Ok x) (tested limit (lexemes ts)) → AreDenoted limit text x
  file_given ts x lexes h =
      let s = tested_denotes limit text (parts_of_tokens ts) lexes (with_trees x) h in
      record { denotes = s.0; file = ap (λ y. y.0) s.1; goals = ap (λ y. y.1) s.1 }

  -- bytes that denote a file have no first fault
  pub no_fault : Denotes limit text → (e : TextFault) → (e ≡ NoMemory) ⊎ HasFirstFault limit text e → e ≡ NoMemory
  no_fault denotes e h = none_given (tested limit) text (denoted denotes) e (denotes_given limit text denotes) h

  pub only_memory : Denotes limit text → (r : Result (FileParts × Vec Goal Global) TextFault) → AnswersFor limit text r → IfErr r (λ e. e ≡ NoMemory)
  only_memory denotes (Ok x) h = tt
  only_memory denotes (Err e) h = no_fault denotes e h

pub all_answered : (bytes : List ℕ) (r : Result (FileParts × Vec Goal Global) TextFault) → AnswersFor Batch bytes r → MatchResult r (λ x. ReadsAll bytes x.0 (map goal_tree x.1.items)) (λ e. (e ≡ NoMemory) ⊎ FirstFaultOfAll bytes e)
all_answered bytes (Ok x) h = record { denotes = h.denotes; file = h.file; goals = h.goals }
all_answered bytes (Err e) h = h
