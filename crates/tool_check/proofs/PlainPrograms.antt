-- If `check` accepts a certificate for the plainest text of a goal about programs, the goal holds for stores.
use Rattle.std.proofs.Common.{◌≡◌, ℕ, List}
use Rattle.kat_model.specs.declared.expression.Width.{Width}
use Rattle.kat_model.specs.Expressions.{CondTree}
use Rattle.while_lang.specs.Programs.{ProgTree}
use Rattle.problem_file.specs.ProgramTexts.{programs_text, triple_text, ArePrintable, IsTriplePrintable}
use Rattle.tool_inputs.specs.StoreAnswers.{AlwaysEndAlike, AlwaysMeets}
use Rattle.tool_inputs.proofs.ProgramSentences.{poses_equal, always_alike, poses_triple, always_met}
use Rattle.tool_check.specs.Check.{ChecksTexts}
use Rattle.tool_check.specs.Working.CheckReplies.{texts_stores}

module _ (text : List ℕ) (w : Width) (v : ℕ) (status : ℕ) (output : List ℕ) where
  pub programs_checked : (p q : ProgTree) → ArePrintable w v p q → text ≡ programs_text w v p q → (evidence : List ℕ) → ChecksTexts text evidence status output → status ≡ 0 → AlwaysEndAlike w v p q
  programs_checked p q printable is evidence r zero =
      let poses = poses_equal text w v p q printable is in
      always_alike text w v p q printable is (texts_stores text evidence status output poses.file poses.reads poses.concrete r zero)

  pub triple_checked : (b : CondTree) (p : ProgTree) (c : CondTree) → IsTriplePrintable w v b p c → text ≡ triple_text w v b p c → (evidence : List ℕ) → ChecksTexts text evidence status output → status ≡ 0 → AlwaysMeets w v b p c
  triple_checked b p c printable is evidence r zero =
      let poses = poses_triple text w v b p c printable is in
      always_met text w v b p c printable is (texts_stores text evidence status output poses.file poses.reads poses.concrete r zero)
