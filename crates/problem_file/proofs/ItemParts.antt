-- The results of items by the results of their parts.
use Rattle.std.proofs.Common.{◌≡◌, ℕ, List, ◌∷◌, drop, Result, Ok, Err, refl}
use Rattle.text_parser.specs.declared.fault.TextFault.{TextFault}
use Rattle.text_parser.specs.declared.terminal.Terminal.{Terminal}
use Rattle.text_parser.specs.declared.terminal.Terminal.TheVariants.{Keyword, Separator, Zero}
use Rattle.text_parser.specs.declared.terminal.Keyword.{Keyword as KeywordOf}
use Rattle.text_parser.specs.declared.terminal.Keyword.TheVariants as word
use Rattle.text_parser.specs.declared.terminal.Separator.TheVariants.{Semicolon, Equals}
use Rattle.text_parser.specs.Lexemes.{Lexeme, lexeme, is_terminal}
use Rattle.text_parser.specs.Parsed.{Parsed, before, then_expects}
use Rattle.text_parser.specs.Phrases.{Leaf}
use Rattle.problem_file.specs.declared.item_reading.Declared.TheVariants as what
use Rattle.problem_file.specs.declared.item_reading.Setting.TheVariants as setting
use Rattle.problem_file.specs.Numbers.{until}
use Rattle.problem_file.specs.ItemActions.{Measurement, ItemActions}
use Rattle.problem_file.specs.Items.{name_at, term_by, meaning_by, block_by, declaration_by, definition_by, prog_by, zero_by, hyp_by, setting_by, goal_by, then_pose, item_by}

module _ {S X : Type 0} (g : ItemActions S X) (s : S) (at : ℕ) (ts us : List Lexeme) (next : drop 1 ts ≡ us) where
  module _ (l : Leaf) (n : name_at ts ≡ Ok l) where
    pub prog_old : (e : TextFault) → g.check_new s l.at l.text ≡ Err e → prog_by g s at ts ≡ Err e
    prog_old e h = rw (n, h) refl

    module _ (u : Unit {0}) (new : g.check_new s l.at l.text ≡ Ok u) where
      pub prog_unmeasured : (e : TextFault) → block_by g s us ≡ Err e → prog_by g s at ts ≡ Err e
      prog_unmeasured e h = rw (n, new, next, h) refl

      module _ (x : Measurement X × List Lexeme) (b : block_by g s us ≡ Ok x) where
        pub prog_wide : (e : TextFault) → g.check_numbers s (until ts x.1) ≡ Err e → prog_by g s at ts ≡ Err e
        prog_wide e h = rw (n, new, next, b, h) refl

        pub prog_ended : (v : Unit {0}) → g.check_numbers s (until ts x.1) ≡ Ok v → prog_by g s at ts ≡ before x.1 (g.define_prog s at l.text x.0)
        prog_ended v w = rw (n, new, next, b, w) refl

      pub definition_ended : (x : Measurement X × List Lexeme) → meaning_by g s us ≡ Ok x → definition_by g s at ts ≡ before x.1 (g.define s at l.text x.0)
      definition_ended x b = rw (n, new, next, b) refl

      pub definition_unmeasured : (e : TextFault) → meaning_by g s us ≡ Err e → definition_by g s at ts ≡ Err e
      definition_unmeasured e h = rw (n, new, next, h) refl

    pub definition_old : (e : TextFault) → g.check_new s l.at l.text ≡ Err e → definition_by g s at ts ≡ Err e
    definition_old e h = rw (n, h) refl

-- term "=" "0" ";"
abbrev pub zero_phrase : {S X : Type 0} → ItemActions S X → S → List Lexeme → Parsed (Measurement X)
zero_phrase g s ts = then_expects (is_terminal (Separator Semicolon)) (then_expects (is_terminal Zero) (then_expects (is_terminal (Separator Equals)) (term_by g s ts)))

-- a hypothesis that a term is 0, by that phrase
module _ {S X : Type 0} (g : ItemActions S X) (s : S) (at : ℕ) (ts : List Lexeme) where
  pub zero_unread : (e : TextFault) → zero_phrase g s ts ≡ Err e → zero_by g s at ts ≡ Err e
  zero_unread e h = rw (h) refl

  pub zero_ended : (x : Measurement X × List Lexeme) → zero_phrase g s ts ≡ Ok x → zero_by g s at ts ≡ before x.1 (g.state_zero s at x.0)
  zero_ended x k = rw (k) refl

-- a question, by the parts that it is about and the semicolon after them
module _ {S X M : Type 0} (g : ItemActions S X) (s : S) (ts : List Lexeme) (f : M → Result S TextFault) (m : Parsed M) where
  pub pose_unread : (e : TextFault) → then_expects (is_terminal (Separator Semicolon)) m ≡ Err e → then_pose g s ts f m ≡ Err e
  pose_unread e h = rw (h) refl

  module _ (x : M × List Lexeme) (k : then_expects (is_terminal (Separator Semicolon)) m ≡ Ok x) where
    pub pose_wide : (e : TextFault) → g.check_numbers s (until ts x.1) ≡ Err e → then_pose g s ts f m ≡ Err e
    pose_wide e h = rw (k, h) refl

    pub pose_ended : (v : Unit {0}) → g.check_numbers s (until ts x.1) ≡ Ok v → then_pose g s ts f m ≡ before x.1 (f x.0)
    pose_ended v narrow = rw (k, narrow) refl

-- an item, by its keyword
module _ {S X : Type 0} (g : ItemActions S X) (s : S) (at : ℕ) (text : List ℕ) (ts us : List Lexeme) (t : Terminal) (seen : ts ≡ lexeme t at text ∷ us) (k : KeywordOf) (is : t ≡ Keyword k) where
  pub test_seen : k ≡ word.Test → item_by g s ts ≡ declaration_by (g.declare what.Test) s us
  test_seen h = rw (seen, is, h) refl

  pub action_seen : k ≡ word.Action → item_by g s ts ≡ declaration_by (g.declare what.Action) s us
  action_seen h = rw (seen, is, h) refl

  pub var_seen : k ≡ word.Var → item_by g s ts ≡ declaration_by (g.declare what.Var) s us
  var_seen h = rw (seen, is, h) refl

  pub term_seen : k ≡ word.Term → item_by g s ts ≡ definition_by g s at us
  term_seen h = rw (seen, is, h) refl

  pub prog_seen : k ≡ word.Prog → item_by g s ts ≡ prog_by g s at us
  prog_seen h = rw (seen, is, h) refl

  pub hyp_seen : k ≡ word.Hyp → item_by g s ts ≡ hyp_by g s at us
  hyp_seen h = rw (seen, is, h) refl

  pub rounds_seen : k ≡ word.Rounds → item_by g s ts ≡ setting_by g setting.Rounds s at us
  rounds_seen h = rw (seen, is, h) refl

  pub width_seen : k ≡ word.Width → item_by g s ts ≡ setting_by g setting.Width s at us
  width_seen h = rw (seen, is, h) refl

  pub goal_seen : k ≡ word.Goal → item_by g s ts ≡ goal_by g s at us
  goal_seen h = rw (seen, is, h) refl
