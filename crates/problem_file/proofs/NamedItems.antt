-- Reading items never fails with `NoMemory` if its actions never do.
use Rattle.std.proofs.Common.{ℕ, suc, ◌+◌, ◌<◌, List, [], ◌∷◌, length, Bool, true, false, cond, Result, Ok, Err, Option, Some, None, arith, drop, length-drop}
use Rattle.text_parser.specs.declared.fault.TextFault.{TextFault}
use Rattle.text_parser.specs.declared.fault.TextFault.TheVariants.{Syntax}
use Rattle.text_parser.specs.declared.terminal.Terminal.{Terminal}
use Rattle.text_parser.specs.declared.terminal.Terminal.TheVariants.{Keyword, Separator, Zero, One, Number, WideNumber}
use Rattle.text_parser.specs.declared.terminal.Keyword.TheVariants as word
use Rattle.text_parser.specs.declared.terminal.Separator.TheVariants.{Comma, Semicolon, CurlyOpen, CurlyClose, Equals}
use Rattle.text_parser.specs.Lexemes.{Lexeme, lexeme, heads, is_terminal}
use Rattle.text_parser.specs.Parsed.{Parsed, ◌>>=◌, before, expects, then_expects, place_of}
use Rattle.text_parser.specs.Actions.{context}
use Rattle.text_parser.specs.Conds.{parse_cond, disjunction}
use Rattle.text_parser.specs.Terms.{parse_term, choice}
use Rattle.text_parser.proofs.Within.{Within, bind_within, if_within, weaken, before_within, enter_within, change_within, then_expects_within}
use Rattle.text_parser.proofs.CondSteps.{cond_read_short}
use Rattle.text_parser.proofs.TermSteps.{term_read_short}
use Rattle.text_parser.proofs.NamedFaults.{IsNamed, then_named, if_named, before_named, change_named, expects_named, then_expects_named, NameTerms, cond_named, term_named}
use Rattle.while_lang.specs.Blocks.{block, parse_block}
use Rattle.while_lang.proofs.BlockSteps.{block_read_short}
use Rattle.problem_file.specs.Numbers.{until}
use Rattle.problem_file.specs.ItemActions.{Measurement, SidesMeasurement, TripleMeasurement, ItemActions}
use Rattle.problem_file.specs.Items.{name_at, number_at, at_number, term_by, cond_by, block_by, program_by, named_or, side_by, braced_by, middle_by, triple_by, then_do, then_pose, declaration_by, meaning_by, definition_by, prog_by, zero_by, hyp_by, setting_by, sides_by, comparison_by, posed_by, item_by, items_by}
use Rattle.problem_file.specs.declared.item_reading.Declared.{Declared}
use Rattle.problem_file.specs.declared.item_reading.Declared.TheVariants as what
use Rattle.problem_file.specs.declared.item_reading.Setting.{Setting}
use Rattle.problem_file.specs.declared.item_reading.Setting.TheVariants as setting
use Rattle.problem_file.specs.declared.item_reading.Comparison.{Comparison}
use Rattle.problem_file.specs.declared.item_reading.Comparison.TheVariants.{Equal, Below}
use Rattle.problem_file.proofs.Lists.{items_named as all_named}
use Rattle.problem_file.proofs.NamedBlocks.{NameBlocks, block_named as parse_block_named}
use Rattle.problem_file.proofs.NameWalks.{name_at_named, declaration_named, declaration_short}

-- ---- numbers

pub number_at_named : (ts : List Lexeme) → IsNamed (number_at ts)
number_at_named [] = tt
number_at_named (lexeme Zero at text ∷ ts) = tt
number_at_named (lexeme One at text ∷ ts) = tt
number_at_named (lexeme (Number n) at text ∷ ts) = tt
number_at_named (lexeme WideNumber at text ∷ ts) = tt
number_at_named (lexeme _ at text ∷ ts) = tt

at_number_named : {S : Type 0} (f : ℕ → ℕ → Result S TextFault) (ts : List Lexeme) → ((at n : ℕ) → IsNamed (f at n)) → IsNamed (at_number f ts)
at_number_named f ts h = then_named (number_at ts) (λ n. before (drop 1 ts) (f (place_of ts) n)) (number_at_named ts) (λ n. before_named (drop 1 ts) (f (place_of ts) n) (h (place_of ts) n))

at_number_short : {S : Type 0} (f : ℕ → ℕ → Result S TextFault) (ts : List Lexeme) → Within (length ts) (at_number f ts)
at_number_short f [] = tt
at_number_short f (lexeme Zero at text ∷ ts) = before_within (suc (length ts)) ts (f at 0) (omega arith)
at_number_short f (lexeme One at text ∷ ts) = before_within (suc (length ts)) ts (f at 1) (omega arith)
at_number_short f (lexeme (Number n) at text ∷ ts) = before_within (suc (length ts)) ts (f at n) (omega arith)
at_number_short f (lexeme WideNumber at text ∷ ts) = tt
at_number_short f (lexeme _ at text ∷ ts) = tt

-- ---- fewer tokens remain

expects_short : {V : Type 0} (p : Terminal → Bool) (ts : List Lexeme) (n : ℕ) (k : List Lexeme → Parsed V) → ((us : List Lexeme) → length us < length ts → Within n (k us)) → Within n (expects p ts >>= k)
expects_short p [] n k h = tt
expects_short p (lexeme s at text ∷ ts) n k h = elim (p s) as (λ b. Within n (cond b (Ok ts) (Err (Syntax at)) >>= k)) [ true ↦ h ts (omega arith) | false ↦ tt ]

then_do_named : {S M : Type 0} (f : M → Result S TextFault) (m : Parsed M) → IsNamed m → ((v : M) → IsNamed (f v)) → IsNamed (then_do f m)
then_do_named f m h k = then_named (then_expects (is_terminal (Separator Semicolon)) m) (λ x. before x.1 (f x.0)) (then_expects_named (is_terminal (Separator Semicolon)) m h) (λ x. before_named x.1 (f x.0) (k x.0))

then_do_short : {S M : Type 0} (f : M → Result S TextFault) (n : ℕ) (m : Parsed M) → Within n m → Within n (then_do f m)
then_do_short f n m h = bind_within n n (then_expects (is_terminal (Separator Semicolon)) m) (λ x. before x.1 (f x.0)) (then_expects_within (is_terminal (Separator Semicolon)) n m h) (λ x lt. before_within n x.1 (f x.0) lt)

then_pose_named : {S X M : Type 0} (g : ItemActions S X) (s : S) (us : List Lexeme) (f : M → Result S TextFault) (m : Parsed M) → ((ts : List Lexeme) → IsNamed (g.check_numbers s ts)) → IsNamed m → ((v : M) → IsNamed (f v)) → IsNamed (then_pose g s us f m)
then_pose_named g s us f m numbers h k =
    then_named (then_expects (is_terminal (Separator Semicolon)) m) (λ x. g.check_numbers s (until us x.1) >>= λ u. before x.1 (f x.0)) (then_expects_named (is_terminal (Separator Semicolon)) m h)
    (λ x. then_named (g.check_numbers s (until us x.1)) (λ u. before x.1 (f x.0)) (numbers (until us x.1)) (λ u. before_named x.1 (f x.0) (k x.0)))

then_pose_short : {S X M : Type 0} (g : ItemActions S X) (s : S) (us : List Lexeme) (f : M → Result S TextFault) (n : ℕ) (m : Parsed M) → Within n m → Within n (then_pose g s us f m)
then_pose_short g s us f n m h =
    bind_within n n (then_expects (is_terminal (Separator Semicolon)) m) (λ x. g.check_numbers s (until us x.1) >>= λ u. before x.1 (f x.0)) (then_expects_within (is_terminal (Separator Semicolon)) n m h)
    (λ x lt. enter_within n (g.check_numbers s (until us x.1)) (λ u. before x.1 (f x.0)) (λ u. before_within n x.1 (f x.0) lt))

module _ {S X : Type 0} (g : ItemActions S X) where
  term_short : (s : S) (ts : List Lexeme) → Within (length ts) (term_by g s ts)
  term_short s ts =
      let m = parse_term (g.phrases s) choice (context 0 false false) ts in
      change_within (length ts) (λ x. record { measure = x; tokens = ts }) m (weaken (length ts + 0) (length ts) m (omega arith) (term_read_short (g.phrases s) choice (context 0 false false) ts))

  cond_short : (s : S) (compares : Bool) (ts : List Lexeme) → Within (length ts) (cond_by g s compares ts)
  cond_short s compares ts =
      let m = parse_cond (g.phrases s).conds disjunction (context 1 false compares) ts in
      change_within (length ts) (λ x. record { measure = x; tokens = ts }) m (weaken (length ts + 0) (length ts) m (omega arith) (cond_read_short (g.phrases s).conds disjunction (context 1 false compares) ts))

  block_by_short : (s : S) (ts : List Lexeme) → Within (length ts) (block_by g s ts)
  block_by_short s ts = change_within (length ts) (λ x. record { measure = x; tokens = ts }) (parse_block (g.blocks s) block 0 ts) (block_read_short (g.blocks s) block 0 ts)

  named_or_short : (s : S) (t : Lexeme) (ts : List Lexeme) (o : Option X) → Within (suc (length ts)) (named_or (t ∷ ts) o (term_by g s (t ∷ ts)))
  named_or_short s t ts (Some x) = omega arith
  named_or_short s t ts None = term_short s (t ∷ ts)

  side_short : (s : S) (ts : List Lexeme) → Within (length ts) (side_by g s ts)
  side_short s [] = term_short s []
  side_short s (t ∷ ts) = named_or_short s t ts (program_by g s (t ∷ ts))

  middle_short : (s : S) (in_goal : Bool) (ts : List Lexeme) → Within (length ts) (middle_by g s in_goal ts)
  middle_short s true ts = side_short s ts
  middle_short s false ts = term_short s ts

  braced_short : (s : S) (compares : Bool) (ts : List Lexeme) → Within (length ts) (braced_by g s compares ts)
  braced_short s compares ts = expects_short (is_terminal (Separator CurlyOpen)) ts (length ts) _
      (λ us lt. then_expects_within (is_terminal (Separator CurlyClose)) (length ts) (cond_by g s compares us) (weaken (length us) (length ts) (cond_by g s compares us) (omega arith) (cond_short s compares us)))

  triple_short : (s : S) (compares : Bool) (ts : List Lexeme) → Within (length ts) (triple_by g s compares ts)
  triple_short s compares ts = bind_within (length ts) (length ts) (braced_by g s compares ts) _ (braced_short s compares ts)
      (λ x lt. bind_within (length x.1) (length ts) (middle_by g s compares x.1) _ (middle_short s compares x.1)
      (λ y le. bind_within (length y.1) (length ts) (braced_by g s compares y.1) _ (braced_short s compares y.1) (λ z l. omega arith)))

  sides_short : (s : S) (ts : List Lexeme) → Within (length ts) (sides_by g s ts)
  sides_short s ts = bind_within (length ts) (length ts) (then_expects (is_terminal (Separator Comma)) (side_by g s ts)) _ (then_expects_within (is_terminal (Separator Comma)) (length ts) (side_by g s ts) (side_short s ts))
      (λ x lt. bind_within (length x.1) (length ts) (side_by g s x.1) _ (side_short s x.1) (λ y le. omega arith))

  meaning_short : (s : S) (ts : List Lexeme) → Within (length ts) (meaning_by g s ts)
  meaning_short s ts = expects_short (is_terminal (Separator Equals)) ts (length ts) _
      (λ us lt. then_expects_within (is_terminal (Separator Semicolon)) (length ts) (term_by g s us) (weaken (length us) (length ts) (term_by g s us) (omega arith) (term_short s us)))

  definition_short : (s : S) (at : ℕ) (ts : List Lexeme) → Within (length ts) (definition_by g s at ts)
  definition_short s at ts = enter_within (length ts) (name_at ts) _
      (λ l. enter_within (length ts) (g.check_new s l.at l.text) _
      (λ u. bind_within (length (drop 1 ts)) (length ts) (meaning_by g s (drop 1 ts)) (λ x. before x.1 (g.define s at l.text x.0)) (meaning_short s (drop 1 ts))
      (λ x lt. before_within (length ts) x.1 (g.define s at l.text x.0) (omega (arith, length-drop 1 ts)))))

  prog_short : (s : S) (at : ℕ) (ts : List Lexeme) → Within (length ts) (prog_by g s at ts)
  prog_short s at ts = enter_within (length ts) (name_at ts) _
      (λ l. enter_within (length ts) (g.check_new s l.at l.text) _
      (λ u. bind_within (length (drop 1 ts)) (length ts) (block_by g s (drop 1 ts)) _ (block_by_short s (drop 1 ts))
      (λ x lt. enter_within (length ts) (g.check_numbers s (until ts x.1)) _
      (λ v. before_within (length ts) x.1 (g.define_prog s at l.text x.0) (omega (arith, length-drop 1 ts))))))

  setting_short : (what : Setting) (s : S) (at : ℕ) (ts : List Lexeme) → Within (length ts) (setting_by g what s at ts)
  setting_short what s at ts = enter_within (length ts) (g.begin_setting what s at) _
      (λ u. then_expects_within (is_terminal (Separator Semicolon)) (length ts) (at_number (g.set what s) ts) (at_number_short (g.set what s) ts))

  zero_short : (s : S) (at : ℕ) (ts : List Lexeme) → Within (length ts) (zero_by g s at ts)
  zero_short s at ts = then_do_short (g.state_zero s at) (length ts) _ (then_expects_within (is_terminal Zero) (length ts) _ (then_expects_within (is_terminal (Separator Equals)) (length ts) (term_by g s ts) (term_short s ts)))

  hyp_short : (s : S) (at : ℕ) (ts : List Lexeme) → Within (length ts) (hyp_by g s at ts)
  hyp_short s at ts = enter_within (length ts) (g.begin_hyp s at) _
      (λ u. if_within (length ts) (heads (is_terminal (Keyword word.Triple)) ts) (then_do (g.state_triple s at) (triple_by g s false (drop 1 ts))) (zero_by g s at ts)
      (λ k. then_do_short (g.state_triple s at) (length ts) (triple_by g s false (drop 1 ts)) (weaken (length (drop 1 ts)) (length ts) (triple_by g s false (drop 1 ts)) (omega (arith, length-drop 1 ts)) (triple_short s false (drop 1 ts))))
      (λ k. zero_short s at ts))

  comparison_short : (c : Comparison) (s : S) (at : ℕ) (ts : List Lexeme) → Within (suc (length ts)) (comparison_by g c s at ts)
  comparison_short c s at ts = then_pose_short g s ts (g.pose_sides c s at) (suc (length ts)) (sides_by g s ts) (weaken (length ts) (suc (length ts)) (sides_by g s ts) (omega arith) (sides_short s ts))

  posed_short : (s : S) (at : ℕ) (ts : List Lexeme) → Within (length ts) (posed_by g s at ts)
  posed_short s at [] = tt
  posed_short s at (lexeme (Keyword word.Equal) place text ∷ ts) = comparison_short Equal s at ts
  posed_short s at (lexeme (Keyword word.Below) place text ∷ ts) = comparison_short Below s at ts
  posed_short s at (lexeme (Keyword word.Triple) place text ∷ ts) = then_pose_short g s ts (g.pose_triple s at) (suc (length ts)) (triple_by g s true ts) (weaken (length ts) (suc (length ts)) (triple_by g s true ts) (omega arith) (triple_short s true ts))
  posed_short s at (lexeme _ place text ∷ ts) = tt

  item_short : (s : S) (ts : List Lexeme) → Within (length ts) (item_by g s ts)
  item_short s [] = tt
  item_short s (lexeme (Keyword word.Test) at text ∷ ts) = weaken (length ts) (suc (length ts)) (declaration_by (g.declare what.Test) s ts) (omega arith) (declaration_short (g.declare what.Test) s ts)
  item_short s (lexeme (Keyword word.Action) at text ∷ ts) = weaken (length ts) (suc (length ts)) (declaration_by (g.declare what.Action) s ts) (omega arith) (declaration_short (g.declare what.Action) s ts)
  item_short s (lexeme (Keyword word.Var) at text ∷ ts) = weaken (length ts) (suc (length ts)) (declaration_by (g.declare what.Var) s ts) (omega arith) (declaration_short (g.declare what.Var) s ts)
  item_short s (lexeme (Keyword word.Term) at text ∷ ts) = weaken (length ts) (suc (length ts)) (definition_by g s at ts) (omega arith) (definition_short s at ts)
  item_short s (lexeme (Keyword word.Prog) at text ∷ ts) = weaken (length ts) (suc (length ts)) (prog_by g s at ts) (omega arith) (prog_short s at ts)
  item_short s (lexeme (Keyword word.Hyp) at text ∷ ts) = weaken (length ts) (suc (length ts)) (hyp_by g s at ts) (omega arith) (hyp_short s at ts)
  item_short s (lexeme (Keyword word.Rounds) at text ∷ ts) = weaken (length ts) (suc (length ts)) (setting_by g setting.Rounds s at ts) (omega arith) (setting_short setting.Rounds s at ts)
  item_short s (lexeme (Keyword word.Width) at text ∷ ts) = weaken (length ts) (suc (length ts)) (setting_by g setting.Width s at ts) (omega arith) (setting_short setting.Width s at ts)
  item_short s (lexeme (Keyword word.Goal) at text ∷ ts) = enter_within (suc (length ts)) (g.begin_goal s at) _ (λ u. weaken (length ts) (suc (length ts)) (posed_by g s at ts) (omega arith) (posed_short s at ts))
  item_short s (lexeme _ at text ∷ ts) = tt

-- no action fails with `NoMemory`
pub record NameItems {S X : Type 0} (g : ItemActions S X) : Type 0 where
  pub phrases : (s : S) → NameTerms (g.phrases s)
  pub blocks : (s : S) → NameBlocks (g.blocks s)
  pub declare : (what : Declared) (s : S) (at : ℕ) (text : List ℕ) → IsNamed (g.declare what s at text)
  pub check_new : (s : S) (at : ℕ) (text : List ℕ) → IsNamed (g.check_new s at text)
  pub define : (s : S) (at : ℕ) (text : List ℕ) (m : Measurement X) → IsNamed (g.define s at text m)
  pub define_prog : (s : S) (at : ℕ) (text : List ℕ) (m : Measurement X) → IsNamed (g.define_prog s at text m)
  pub begin_hyp : (s : S) (at : ℕ) → IsNamed (g.begin_hyp s at)
  pub state_zero : (s : S) (at : ℕ) (m : Measurement X) → IsNamed (g.state_zero s at m)
  pub state_triple : (s : S) (at : ℕ) (m : TripleMeasurement X) → IsNamed (g.state_triple s at m)
  pub begin_setting : (what : Setting) (s : S) (at : ℕ) → IsNamed (g.begin_setting what s at)
  pub set : (what : Setting) (s : S) (at n : ℕ) → IsNamed (g.set what s at n)
  pub check_numbers : (s : S) (ts : List Lexeme) → IsNamed (g.check_numbers s ts)
  pub begin_goal : (s : S) (at : ℕ) → IsNamed (g.begin_goal s at)
  pub pose_sides : (c : Comparison) (s : S) (at : ℕ) (m : SidesMeasurement X) → IsNamed (g.pose_sides c s at m)
  pub pose_triple : (s : S) (at : ℕ) (m : TripleMeasurement X) → IsNamed (g.pose_triple s at m)

module _ {S X : Type 0} (g : ItemActions S X) (names : NameItems g) where
  term_by_named : (s : S) (ts : List Lexeme) → IsNamed (term_by g s ts)
  term_by_named s ts = change_named (λ x. record { measure = x; tokens = ts }) (parse_term (g.phrases s) choice (context 0 false false) ts) (term_named (g.phrases s) (names.phrases s) choice (context 0 false false) ts)

  cond_by_named : (s : S) (compares : Bool) (ts : List Lexeme) → IsNamed (cond_by g s compares ts)
  cond_by_named s compares ts = change_named (λ x. record { measure = x; tokens = ts }) (parse_cond (g.phrases s).conds disjunction (context 1 false compares) ts) (cond_named (g.phrases s).conds (names.phrases s).conds disjunction (context 1 false compares) ts)

  block_by_named : (s : S) (ts : List Lexeme) → IsNamed (block_by g s ts)
  block_by_named s ts = change_named (λ x. record { measure = x; tokens = ts }) (parse_block (g.blocks s) block 0 ts) (parse_block_named (g.blocks s) (names.blocks s) block 0 ts)

  named_or_named : (s : S) (ts : List Lexeme) (o : Option X) → IsNamed (named_or ts o (term_by g s ts))
  named_or_named s ts (Some x) = tt
  named_or_named s ts None = term_by_named s ts

  side_by_named : (s : S) (ts : List Lexeme) → IsNamed (side_by g s ts)
  side_by_named s ts = named_or_named s ts (program_by g s ts)

  middle_named : (s : S) (in_goal : Bool) (ts : List Lexeme) → IsNamed (middle_by g s in_goal ts)
  middle_named s true ts = side_by_named s ts
  middle_named s false ts = term_by_named s ts

  braced_named : (s : S) (compares : Bool) (ts : List Lexeme) → IsNamed (braced_by g s compares ts)
  braced_named s compares ts = then_named (expects (is_terminal (Separator CurlyOpen)) ts) _ (expects_named (is_terminal (Separator CurlyOpen)) ts) (λ us. then_expects_named (is_terminal (Separator CurlyClose)) (cond_by g s compares us) (cond_by_named s compares us))

  triple_named : (s : S) (compares : Bool) (ts : List Lexeme) → IsNamed (triple_by g s compares ts)
  triple_named s compares ts = then_named (braced_by g s compares ts) _ (braced_named s compares ts)
      (λ x. then_named (middle_by g s compares x.1) _ (middle_named s compares x.1) (λ y. then_named (braced_by g s compares y.1) _ (braced_named s compares y.1) (λ z. tt)))

  sides_named : (s : S) (ts : List Lexeme) → IsNamed (sides_by g s ts)
  sides_named s ts = then_named (then_expects (is_terminal (Separator Comma)) (side_by g s ts)) _ (then_expects_named (is_terminal (Separator Comma)) (side_by g s ts) (side_by_named s ts))
      (λ x. then_named (side_by g s x.1) _ (side_by_named s x.1) (λ y. tt))

  meaning_named : (s : S) (ts : List Lexeme) → IsNamed (meaning_by g s ts)
  meaning_named s ts = then_named (expects (is_terminal (Separator Equals)) ts) _ (expects_named (is_terminal (Separator Equals)) ts) (λ us. then_expects_named (is_terminal (Separator Semicolon)) (term_by g s us) (term_by_named s us))

  definition_named : (s : S) (at : ℕ) (ts : List Lexeme) → IsNamed (definition_by g s at ts)
  definition_named s at ts = then_named (name_at ts) _ (name_at_named ts)
      (λ l. then_named (g.check_new s l.at l.text) _ (names.check_new s l.at l.text)
      (λ u. then_named (meaning_by g s (drop 1 ts)) (λ x. before x.1 (g.define s at l.text x.0)) (meaning_named s (drop 1 ts)) (λ x. before_named x.1 (g.define s at l.text x.0) (names.define s at l.text x.0))))

  prog_named : (s : S) (at : ℕ) (ts : List Lexeme) → IsNamed (prog_by g s at ts)
  prog_named s at ts = then_named (name_at ts) _ (name_at_named ts)
      (λ l. then_named (g.check_new s l.at l.text) _ (names.check_new s l.at l.text)
      (λ u. then_named (block_by g s (drop 1 ts)) _ (block_by_named s (drop 1 ts))
      (λ x. then_named (g.check_numbers s (until ts x.1)) _ (names.check_numbers s (until ts x.1)) (λ v. before_named x.1 (g.define_prog s at l.text x.0) (names.define_prog s at l.text x.0)))))

  setting_named : (what : Setting) (s : S) (at : ℕ) (ts : List Lexeme) → IsNamed (setting_by g what s at ts)
  setting_named what s at ts = then_named (g.begin_setting what s at) _ (names.begin_setting what s at)
      (λ u. then_expects_named (is_terminal (Separator Semicolon)) (at_number (g.set what s) ts) (at_number_named (g.set what s) ts (names.set what s)))

  zero_named : (s : S) (at : ℕ) (ts : List Lexeme) → IsNamed (zero_by g s at ts)
  zero_named s at ts = then_do_named (g.state_zero s at) _ (then_expects_named (is_terminal Zero) _ (then_expects_named (is_terminal (Separator Equals)) (term_by g s ts) (term_by_named s ts))) (names.state_zero s at)

  hyp_named : (s : S) (at : ℕ) (ts : List Lexeme) → IsNamed (hyp_by g s at ts)
  hyp_named s at ts = then_named (g.begin_hyp s at) _ (names.begin_hyp s at)
      (λ u. if_named (heads (is_terminal (Keyword word.Triple)) ts) (then_do (g.state_triple s at) (triple_by g s false (drop 1 ts))) (zero_by g s at ts)
      (λ k. then_do_named (g.state_triple s at) (triple_by g s false (drop 1 ts)) (triple_named s false (drop 1 ts)) (names.state_triple s at))
      (λ k. zero_named s at ts))

  posed_named : (s : S) (at : ℕ) (ts : List Lexeme) → IsNamed (posed_by g s at ts)
  posed_named s at [] = tt
  posed_named s at (lexeme (Keyword word.Equal) place text ∷ ts) = then_pose_named g s ts (g.pose_sides Equal s at) (sides_by g s ts) (names.check_numbers s) (sides_named s ts) (names.pose_sides Equal s at)
  posed_named s at (lexeme (Keyword word.Below) place text ∷ ts) = then_pose_named g s ts (g.pose_sides Below s at) (sides_by g s ts) (names.check_numbers s) (sides_named s ts) (names.pose_sides Below s at)
  posed_named s at (lexeme (Keyword word.Triple) place text ∷ ts) = then_pose_named g s ts (g.pose_triple s at) (triple_by g s true ts) (names.check_numbers s) (triple_named s true ts) (names.pose_triple s at)
  posed_named s at (lexeme _ place text ∷ ts) = tt

  item_named : (s : S) (ts : List Lexeme) → IsNamed (item_by g s ts)
  item_named s [] = tt
  item_named s (lexeme (Keyword word.Test) at text ∷ ts) = declaration_named (g.declare what.Test) (names.declare what.Test) s ts
  item_named s (lexeme (Keyword word.Action) at text ∷ ts) = declaration_named (g.declare what.Action) (names.declare what.Action) s ts
  item_named s (lexeme (Keyword word.Var) at text ∷ ts) = declaration_named (g.declare what.Var) (names.declare what.Var) s ts
  item_named s (lexeme (Keyword word.Term) at text ∷ ts) = definition_named s at ts
  item_named s (lexeme (Keyword word.Prog) at text ∷ ts) = prog_named s at ts
  item_named s (lexeme (Keyword word.Hyp) at text ∷ ts) = hyp_named s at ts
  item_named s (lexeme (Keyword word.Rounds) at text ∷ ts) = setting_named setting.Rounds s at ts
  item_named s (lexeme (Keyword word.Width) at text ∷ ts) = setting_named setting.Width s at ts
  item_named s (lexeme (Keyword word.Goal) at text ∷ ts) = then_named (g.begin_goal s at) _ (names.begin_goal s at) (λ u. posed_named s at ts)
  item_named s (lexeme _ at text ∷ ts) = tt

  pub items_named : (s : S) (ts : List Lexeme) → IsNamed (items_by g s ts)
  items_named s ts = all_named (item_by g) item_named (item_short g) s ts
