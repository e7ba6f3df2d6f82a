-- The plainest text of a goal about programs is read as a concrete file, whose goal is a statement about stores.
use Rattle.std.proofs.Common.{◌≡◌, ℕ, List, sym, subst}
use Rattle.kat_model.specs.declared.expression.Width.{Width}
use Rattle.kat_model.specs.Expressions.{CondTree}
use Rattle.while_lang.specs.Programs.{ProgTree}
use Rattle.while_lang.specs.Files.{equal, triple, prog_side}
use Rattle.while_lang.specs.Concrete.{EndAlike, MeetsTriple, GoalAgrees, Agrees}
use Rattle.problem_file.specs.ProgramTexts.{programs_text, triple_text, ArePrintable, IsTriplePrintable}
use Rattle.problem_file.specs.TextLaws.{PosesPrograms}
use Rattle.problem_file.proofs.ProgramReadings.{programs_read_back, triples_read_back}
use Rattle.tool_inputs.specs.StoreAnswers.{AlwaysEndAlike, AlwaysMeets}

module _ (text : List ℕ) (w : Width) (v : ℕ) where
  module _ (p q : ProgTree) (printable : ArePrintable w v p q) (is : text ≡ programs_text w v p q) where
    pub poses_equal : PosesPrograms text w v (equal (prog_side p) (prog_side q))
    poses_equal = subst (λ t. PosesPrograms t w v (equal (prog_side p) (prog_side q))) (sym is) (programs_read_back w v p q printable)

    all_stores : EndAlike poses_equal.file p q → AlwaysEndAlike w v p q
    all_stores h = subst (λ x. AlwaysEndAlike x v p q) poses_equal.width (subst (λ n. AlwaysEndAlike poses_equal.file.width n p q) poses_equal.vars h)

    pub always_alike : Agrees poses_equal.file → AlwaysEndAlike w v p q
    always_alike h = all_stores (subst (GoalAgrees poses_equal.file) poses_equal.goal h)

  module _ (b : CondTree) (p : ProgTree) (c : CondTree) (printable : IsTriplePrintable w v b p c) (is : text ≡ triple_text w v b p c) where
    pub poses_triple : PosesPrograms text w v (triple b (prog_side p) c)
    poses_triple = subst (λ t. PosesPrograms t w v (triple b (prog_side p) c)) (sym is) (triples_read_back w v b p c printable)

    all_runs : MeetsTriple poses_triple.file b p c → AlwaysMeets w v b p c
    all_runs h = subst (λ x. AlwaysMeets x v b p c) poses_triple.width (subst (λ n. AlwaysMeets poses_triple.file.width n b p c) poses_triple.vars h)

    pub always_met : Agrees poses_triple.file → AlwaysMeets w v b p c
    always_met h = all_runs (subst (GoalAgrees poses_triple.file) poses_triple.goal h)
