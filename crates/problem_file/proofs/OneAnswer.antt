-- Bytes denote exactly one file or have exactly one first fault, and never both.
use Rattle.std.proofs.Common.{◌≡◌, ℕ, List, [], map, drop, Ok, Option, Some, None, slice_get, arith, refl, sym, ap, ap₂, ◌∙◌}
use Rattle.std.proofs.lemmas.Option.{slice_get_past, none-some}
use Rattle.text_parser.specs.TokenParts.{TokenParts}
use Rattle.text_parser.specs.Lex.{Lexes}
use Rattle.text_parser.specs.Lexemes.{lexeme_of}
use Rattle.text_parser.specs.Parsed.{◌>>=◌}
use Rattle.text_parser.proofs.ParserSoundness.{bind_ok}
use Rattle.while_lang.specs.NamedProgs.{ProgParts}
use Rattle.while_lang.specs.BlockLaws.{AreLimited}
use Rattle.problem_file.specs.declared.goal_limit.GoalLimit.{GoalLimit}
use Rattle.problem_file.specs.declared.goal_limit.GoalLimit.TheVariants.{One, Batch}
use Rattle.while_lang.specs.Files.{GoalTree, FileParts}
use Rattle.problem_file.specs.Files.{State, start, file_of}
use Rattle.problem_file.specs.Syntax.{scan_file}
use Rattle.problem_file.specs.Making.{parse_items}
use Rattle.problem_file.specs.Reads.{Denotes, Reads, FirstFault, FirstFaultOfAll, files_with, check_goal, tested}
use Rattle.problem_file.specs.Laws.{HaveOneAnswer, ReadsBoth}
use Rattle.problem_file.proofs.Results.{same_ok}
use Rattle.problem_file.proofs.ScannedFiles.{files_are_scanned}
use Rattle.problem_file.proofs.WalkedItems.{items_are_made}
use Rattle.problem_file.proofs.NamedTexts.{tested_named}
use Rattle.problem_file.proofs.TextAnswers.{Represents, one_answer}

-- ---- the result of the token checks

-- the first state has no program
no_prog : (i : ℕ) (p : ProgParts) → slice_get [] i ≡ Some p → ⊥
no_prog i p e = let none : slice_get [] i ≡ None = slice_get_past [] i (omega arith) in none-some p (sym none ∙ e)

start_limited : (limit : GoalLimit) → AreLimited (start limit).progs
start_limited limit i p e = absurd (no_prog i p e)

-- the file that the bytes denote, and the goals after its first
abbrev pub denoted : {limit : GoalLimit} {bytes : List ℕ} → Denotes limit bytes → FileParts × List GoalTree
denoted x = (file_of x.state x.goal, drop 1 (x.state).goals)

module _ (limit : GoalLimit) (bytes : List ℕ) where
  denoted_tested : (x : Denotes limit bytes) → tested limit (map lexeme_of x.parts_of_tokens) ≡ Ok (denoted x)
  denoted_tested x =
      let ts = map lexeme_of x.parts_of_tokens in
      let scanned : scan_file ts ≡ Ok tt = (files_are_scanned ts).1 (x.items, x.spells) in
      let walked : parse_items (start limit) ts ≡ Ok x.state = (items_are_made (start limit) x.state x.items ts (start_limited limit) x.spells).1 x.make in
      rw (scanned, walked, x.has_goal) refl

  goal_given : (s : State) (y : FileParts × List GoalTree) (o : Option GoalTree) → files_with s o ≡ Ok y → (goal : GoalTree) × (o ≡ Some goal) × (y ≡ (file_of s goal, drop 1 s.goals))
  goal_given s y None e = absurd cc
  goal_given s y (Some goal) e = (goal, refl, sym (same_ok (file_of s goal, drop 1 s.goals) y e))

  pub tested_denotes : (ms : List TokenParts) → Lexes bytes ms → (y : FileParts × List GoalTree) → tested limit (map lexeme_of ms) ≡ Ok y → (x : Denotes limit bytes) × (y ≡ denoted x)
  tested_denotes ms lexes y t =
      let ts = map lexeme_of ms in
      let scanned = bind_ok (scan_file ts) (λ u. parse_items (start limit) ts >>= check_goal) y t in
      let walked = bind_ok (parse_items (start limit) ts) check_goal y scanned.2 in
      let goal = goal_given walked.0 y (slice_get (walked.0).goals 0) walked.2 in
      let file = (files_are_scanned ts).0 scanned.1 in (
        record {
          parts_of_tokens = ms;
          lexes = lexes;
          items = file.0;
          spells = file.1;
          state = walked.0;
          make = (items_are_made (start limit) walked.0 file.0 ts (start_limited limit) file.1).0 walked.1;
          goal = goal.0;
          has_goal = goal.1;
        },
        goal.2,
      )

  pub given_denotes : (x : FileParts × List GoalTree) → Represents (tested limit) bytes x → (s : Denotes limit bytes) × (x ≡ denoted s)
  given_denotes x t = tested_denotes t.parts_of_tokens t.lexes x t.tests_pass

  pub denotes_given : (s : Denotes limit bytes) → Represents (tested limit) bytes (denoted s)
  denotes_given s = record { parts_of_tokens = s.parts_of_tokens; lexes = s.lexes; tests_pass = denoted_tested s }

-- ---- texts of one goal, and of up to `MAX_GOALS`

pub have_one_answer : HaveOneAnswer Reads FirstFault
have_one_answer = one_answer (tested One) Reads (λ x. x.0) (record {
  given = λ bytes x t. let s = given_denotes One bytes x t in record { denotes = s.0; file = ap (λ (y : FileParts × List GoalTree). y.0) s.1 };
  pass = λ bytes f r. (denoted r.denotes, denotes_given One bytes r.denotes, r.file);
  named = tested_named One;
})

pub all_have_one_answer : HaveOneAnswer ReadsBoth FirstFaultOfAll
all_have_one_answer = one_answer (tested Batch) ReadsBoth (λ x. x) (record {
  given = λ bytes x t. let s = given_denotes Batch bytes x t in record { denotes = s.0; file = ap (λ (y : FileParts × List GoalTree). y.0) s.1; goals = ap (λ (y : FileParts × List GoalTree). y.1) s.1 };
  pass = λ bytes x r. (denoted r.denotes, denotes_given Batch bytes r.denotes, both_denoted x (denoted r.denotes) r.file r.goals);
  named = tested_named Batch;
}) where
  both_denoted : (x y : FileParts × List GoalTree) → x.0 ≡ y.0 → x.1 ≡ y.1 → x ≡ y
  both_denoted x y p q = ap₂ (λ f gs. (f, gs)) p q
