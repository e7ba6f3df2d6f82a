-- Whatever the actions, what they read at the start of the tokens are items of the grammar, in which nothing is too
-- deep or too wide.
use Rattle.std.proofs.Common.{◌≡◌, ℕ, zero, suc, List, [], ◌∷◌, length, drop, Bool, true, false, cond as if_true, Result, Ok, Err, Option, Some, None, refl, ap, subst, ◌∙◌}
use Rattle.std.specs.Option.{option_and_then}
use Rattle.text_parser.specs.declared.fault.TextFault.{TextFault}
use Rattle.text_parser.specs.declared.terminal.Terminal.TheVariants.{Name, Keyword, Separator, Zero, One, Number}
use Rattle.text_parser.specs.declared.terminal.Keyword.TheVariants as word
use Rattle.text_parser.specs.declared.terminal.Separator.TheVariants.{Comma, Semicolon, CurlyOpen, CurlyClose, Equals}
use Rattle.text_parser.specs.Lexemes.{Lexeme, lexeme, heads, is_terminal}
use Rattle.text_parser.specs.Parsed.{Parsed, ◌>>=◌, before, expects, then_expects}
use Rattle.text_parser.specs.Actions.{context}
use Rattle.text_parser.specs.Conds.{parse_cond, disjunction}
use Rattle.text_parser.specs.Terms.{parse_term, choice}
use Rattle.text_parser.specs.Ends.{goes_on}
use Rattle.text_parser.specs.Phrases.{term, cond, Leaf, Phrase, one_prod, one_star, bare, name_unit, cons_token, IsWithinLimits, IsPhrase}
use Rattle.text_parser.proofs.Longest.{longest}
use Rattle.text_parser.proofs.TerminalEquality.{expects_ok}
use Rattle.text_parser.proofs.ParserSoundness.{leaf, bind_ok, chosen, changed_ok, before_ok, expected_ok, terminal_headed, cond_found as conds_found, term_found as terms_found}
use Rattle.while_lang.specs.Blocks.{block as block_aim, parse_block}
use Rattle.while_lang.specs.BlockPhrases.{block, IsBlockPhrase}
use Rattle.while_lang.proofs.BlockSoundness.{block_found as blocks_found}
use Rattle.problem_file.specs.Numbers.{until}
use Rattle.problem_file.specs.ItemActions.{Measurement, SidesMeasurement, TripleMeasurement, ItemActions}
use Rattle.problem_file.specs.Items.{name_at, number_at, at_number, lone_name, term_by, cond_by, block_by, program_by, named_or, side_by, braced_by, middle_by, triple_by, then_do, then_pose, meaning_by, definition_by, prog_by, zero_by, hyp_by, setting_by, sides_by, posed_by, item_by, items_within, items_by}
use Rattle.problem_file.specs.declared.item_reading.Declared.TheVariants as what
use Rattle.problem_file.specs.declared.item_reading.Setting.{Setting}
use Rattle.problem_file.specs.Phrases.{Numeral, zero_number, one_number, other_number, Braced, TriplePhrase}
use Rattle.problem_file.specs.Phrases.{Body, tests, actions, variables, definition, program, hypothesis, hyp_triple, rounds, width, goal_equal, goal_below, goal_triple, Item}
use Rattle.problem_file.specs.Phrases.{word_of, numeral_onto, braced_onto, triple_onto, ended, sides_onto, body_onto, item_onto, BracedObeys, TripleObeys, SidesObey, BodyObeys, NumeralFits, TripleFits, BodyFits}
use Rattle.problem_file.specs.Laws.{IsSomeFile}
use Rattle.problem_file.proofs.NameWalks.{name_leaf, declaration_found}

-- a value, used after a semicolon is read
done_ok : {S M : Type 0} (f : M → Result S TextFault) (m : Parsed M) (y : S × List Lexeme) → then_do f m ≡ Ok y → (v : M) × (l : Leaf) × (m ≡ Ok (v, ended l y.1))
done_ok f m y e =
    let a = bind_ok (then_expects (is_terminal (Separator Semicolon)) m) (λ x. before x.1 (f x.0)) y e in
    let b = expected_ok (Separator Semicolon) m a.0 a.1 in
    let same = before_ok a.0.1 (f a.0.0) y.0 y.1 a.2 in
    (a.0.0, b.0, b.1 ∙ ap (λ us. Ok (a.0.0, ended b.0 us)) same)

-- the same if the numbers of the item are checked first
posed_ok : {S X M : Type 0} (g : ItemActions S X) (s : S) (us : List Lexeme) (f : M → Result S TextFault) (m : Parsed M) (y : S × List Lexeme) → then_pose g s us f m ≡ Ok y → (v : M) × (l : Leaf) × (m ≡ Ok (v, ended l y.1))
posed_ok g s us f m y e =
    let a = bind_ok (then_expects (is_terminal (Separator Semicolon)) m) (λ x. g.check_numbers s (until us x.1) >>= λ u. before x.1 (f x.0)) y e in
    let b = expected_ok (Separator Semicolon) m a.0 a.1 in
    let c = bind_ok (g.check_numbers s (until us a.0.1)) (λ u. before a.0.1 (f a.0.0)) y a.2 in
    let same = before_ok a.0.1 (f a.0.0) y.0 y.1 c.2 in
    (a.0.0, b.0, b.1 ∙ ap (λ vs. Ok (a.0.0, ended b.0 vs)) same)

-- ---- numbers, and names that are terms

-- a number below 2^64
abbrev pub NumeralFound : List Lexeme → List Lexeme → Type 0
NumeralFound ts rest = (n : Numeral) × (ts ≡ numeral_onto n rest) × NumeralFits n

pub numeral_found : (ts : List Lexeme) (n : ℕ) → number_at ts ≡ Ok n → NumeralFound ts (drop 1 ts)
numeral_found [] n e = absurd cc
numeral_found (lexeme Zero at text ∷ ts) n e = (zero_number (leaf at text), refl, tt)
numeral_found (lexeme One at text ∷ ts) n e = (one_number (leaf at text), refl, tt)
numeral_found (lexeme (Number m) at text ∷ ts) n e = (other_number (leaf at text) m, refl, tt)
numeral_found (lexeme _ at text ∷ ts) n e = absurd cc

number_found : {S : Type 0} (f : ℕ → ℕ → Result S TextFault) (ts : List Lexeme) (y : S × List Lexeme) → at_number f ts ≡ Ok y → NumeralFound ts y.1
number_found f ts y e =
    let a = bind_ok (number_at ts) _ y e in
    let same = before_ok (drop 1 ts) (f _ a.0) y.0 y.1 a.2 in
    subst (NumeralFound ts) same (numeral_found ts a.0 a.1)

-- a lone name is a term
lone_found : (ts : List Lexeme) (name : List ℕ) → lone_name ts ≡ Some name → IsPhrase term 0 ts (drop 1 ts)
lone_found [] name e = absurd cc
lone_found (lexeme Name at text ∷ ts) name e = by_next (heads (goes_on term) ts) refl e where
  by_next : (b : Bool) → heads (goes_on term) ts ≡ b → if_true b None (Some text) ≡ Some name → IsPhrase term 0 (lexeme Name at text ∷ ts) ts
  by_next true h k = absurd cc
  by_next false h k =
      let p : Phrase term = one_prod (one_star (bare (name_unit (leaf at text)))) in
      record { phrase = p; spelled = refl; obeys = tt; longest = longest p ts h; fits = tt }
lone_found (lexeme _ at text ∷ ts) name e = absurd cc

-- ---- parts of items

-- a condition in braces, and the tokens that follow it
pub record BracedFound (ts rest : List Lexeme) : Type 0 where
  pub braced : Braced
  pub spelled : ts ≡ braced_onto braced rest
  pub obeys : BracedObeys braced rest
  pub fits : IsWithinLimits 1 braced.inner

pub record TripleFound (ts rest : List Lexeme) : Type 0 where
  pub triple : TriplePhrase
  pub spelled : ts ≡ triple_onto triple rest
  pub obeys : TripleObeys triple rest
  pub fits : TripleFits triple

-- two terms with a comma between them
pub record SidesFound (ts rest : List Lexeme) : Type 0 where
  pub left : Phrase term
  pub comma : Leaf
  pub right : Phrase term
  pub spelled : ts ≡ sides_onto left comma right rest
  pub obey : SidesObey left comma right rest
  pub fits : IsWithinLimits 0 left × IsWithinLimits 0 right

-- an item, and the tokens that follow it
pub record ItemFound (ts rest : List Lexeme) : Type 0 where
  pub item : Item
  pub spelled : ts ≡ item_onto item rest
  pub obeys : BodyObeys item.body rest
  pub fits : BodyFits item.body

after_word : (b : Body) (at : ℕ) (text : List ℕ) (ts rest : List Lexeme) → ts ≡ body_onto b rest → BodyObeys b rest → BodyFits b → ItemFound (lexeme (Keyword (word_of b)) at text ∷ ts) rest
after_word b at text ts rest spelled obeys fits = record {
  item = record { keyword = leaf at text; body = b };
  spelled = ap (λ us. lexeme (Keyword (word_of b)) at text ∷ us) spelled;
  obeys = obeys;
  fits = fits;
}

module _ {S X : Type 0} (g : ItemActions S X) where
  term_found : (s : S) (ts : List Lexeme) (y : Measurement X × List Lexeme) → term_by g s ts ≡ Ok y → IsPhrase term 0 ts y.1
  term_found s ts y e =
      let a = changed_ok (λ m. record { measure = m; tokens = ts }) (parse_term (g.phrases s) choice (context 0 false false) ts) y.0 y.1 e in
      terms_found (g.phrases s) choice (context 0 false false) ts (a.0, y.1) a.1

  block_found : (s : S) (ts : List Lexeme) (y : Measurement X × List Lexeme) → block_by g s ts ≡ Ok y → IsBlockPhrase block 0 ts y.1
  block_found s ts y e =
      let a = changed_ok (λ m. record { measure = m; tokens = ts }) (parse_block (g.blocks s) block_aim 0 ts) y.0 y.1 e in
      blocks_found (g.blocks s) block_aim 0 ts (a.0, y.1) a.1

  -- the name of a program, or a term
  named_found : (s : S) (ts : List Lexeme) (y : Measurement X × List Lexeme) (o : Option (List ℕ)) (x : Option X) → lone_name ts ≡ o → option_and_then (g.program s) o ≡ x → named_or ts x (term_by g s ts) ≡ Ok y → IsPhrase term 0 ts y.1
  named_found s ts y o None h k e = term_found s ts y e
  named_found s ts y None (Some x) h k e = absurd cc
  named_found s ts y (Some name) (Some x) h k e = let same : drop 1 ts ≡ y.1 = ap rest_of e in subst (IsPhrase term 0 ts) same (lone_found ts name h) where
    rest_of : Parsed (Measurement X) → List Lexeme
    rest_of (Ok z) = z.1
    rest_of (Err f) = []

  side_found : (s : S) (ts : List Lexeme) (y : Measurement X × List Lexeme) → side_by g s ts ≡ Ok y → IsPhrase term 0 ts y.1
  side_found s ts y e = named_found s ts y (lone_name ts) (program_by g s ts) refl refl e

  middle_found : (s : S) (in_goal : Bool) (ts : List Lexeme) (y : Measurement X × List Lexeme) → middle_by g s in_goal ts ≡ Ok y → IsPhrase term 0 ts y.1
  middle_found s true ts y e = side_found s ts y e
  middle_found s false ts y e = term_found s ts y e

  cond_found : (s : S) (compares : Bool) (ts : List Lexeme) (y : Measurement X × List Lexeme) → cond_by g s compares ts ≡ Ok y → IsPhrase cond 1 ts y.1
  cond_found s compares ts y e =
      let a = changed_ok (λ m. record { measure = m; tokens = ts }) (parse_cond (g.phrases s).conds disjunction (context 1 false compares) ts) y.0 y.1 e in
      conds_found (g.phrases s).conds disjunction (context 1 false compares) ts (a.0, y.1) a.1

  braced_found : (s : S) (compares : Bool) (ts : List Lexeme) (y : Measurement X × List Lexeme) → braced_by g s compares ts ≡ Ok y → BracedFound ts y.1
  braced_found s compares ts y e =
      let a = bind_ok (expects (is_terminal (Separator CurlyOpen)) ts) (λ us. then_expects (is_terminal (Separator CurlyClose)) (cond_by g s compares us)) y e in
      let left = expects_ok (Separator CurlyOpen) ts a.0 a.1 in
      let right = expected_ok (Separator CurlyClose) (cond_by g s compares a.0) y a.2 in
      let inner = cond_found s compares a.0 (y.0, cons_token (Separator CurlyClose) right.0 y.1) right.1 in
      record {
        braced = record { left = left.0; inner = inner.phrase; right = right.0 };
        spelled = left.1 ∙ ap (cons_token (Separator CurlyOpen) left.0) inner.spelled;
        obeys = inner.obeys;
        fits = inner.fits;
      }

  triple_found : (s : S) (compares : Bool) (ts : List Lexeme) (y : TripleMeasurement X × List Lexeme) → triple_by g s compares ts ≡ Ok y → TripleFound ts y.1
  triple_found s compares ts y e =
      let a = bind_ok (braced_by g s compares ts) (λ x. middle_by g s compares x.1 >>= λ v. braced_by g s compares v.1 >>= λ z. Ok (record { pre = x.0; body = v.0; post = z.0 }, z.1)) y e in
      let b = bind_ok (middle_by g s compares a.0.1) (λ v. braced_by g s compares v.1 >>= λ z. Ok (record { pre = a.0.0; body = v.0; post = z.0 }, z.1)) y a.2 in
      let c = bind_ok (braced_by g s compares b.0.1) (λ z. Ok (record { pre = a.0.0; body = b.0.0; post = z.0 }, z.1)) y b.2 in
      let us : c.0.1 ≡ y.1 = ap (rest_or y.1) c.2 in
      let last = subst (λ r. BracedFound b.0.1 r) us (braced_found s compares b.0.1 c.0 c.1) in
      let inner = subst (λ r. IsPhrase term 0 a.0.1 r) last.spelled (middle_found s compares a.0.1 b.0 b.1) in
      let first = subst (λ r. BracedFound ts r) inner.spelled (braced_found s compares ts a.0 a.1) in
      record {
        triple = record { pre = first.braced; body = inner.phrase; post = last.braced };
        spelled = first.spelled;
        obeys = (first.obeys, inner.obeys, last.obeys);
        fits = (first.fits, inner.fits, last.fits);
      }
    where
      rest_or : List Lexeme → Parsed (TripleMeasurement X) → List Lexeme
      rest_or r (Ok x) = x.1
      rest_or r (Err f) = r

  sides_found : (s : S) (ts : List Lexeme) (y : SidesMeasurement X × List Lexeme) → sides_by g s ts ≡ Ok y → SidesFound ts y.1
  sides_found s ts y e =
      let a = bind_ok (then_expects (is_terminal (Separator Comma)) (side_by g s ts)) (λ x. side_by g s x.1 >>= λ v. Ok (record { left = x.0; right = v.0 }, v.1)) y e in
      let b = bind_ok (side_by g s a.0.1) (λ v. Ok (record { left = a.0.0; right = v.0 }, v.1)) y a.2 in
      let us : b.0.1 ≡ y.1 = ap (rest_or y.1) b.2 in
      let comma = expected_ok (Separator Comma) (side_by g s ts) a.0 a.1 in
      let right = subst (λ r. IsPhrase term 0 a.0.1 r) us (side_found s a.0.1 b.0 b.1) in
      let left = subst (λ r. IsPhrase term 0 ts r) (ap (cons_token (Separator Comma) comma.0) right.spelled) (side_found s ts (a.0.0, cons_token (Separator Comma) comma.0 a.0.1) comma.1) in
      record {
        left = left.phrase;
        comma = comma.0;
        right = right.phrase;
        spelled = left.spelled;
        obey = (left.obeys, right.obeys);
        fits = (left.fits, right.fits);
      }
    where
      rest_or : List Lexeme → Parsed (SidesMeasurement X) → List Lexeme
      rest_or r (Ok x) = x.1
      rest_or r (Err f) = r

  -- ---- items

  definition_found : (s : S) (at : ℕ) (text : List ℕ) (ts : List Lexeme) (y : S × List Lexeme) → definition_by g s at ts ≡ Ok y → ItemFound (lexeme (Keyword word.Term) at text ∷ ts) y.1
  definition_found s at text ts y e =
      let a = bind_ok (name_at ts) _ y e in
      let b = bind_ok (g.check_new s (a.0).at (a.0).text) _ y a.2 in
      let c = bind_ok (meaning_by g s (drop 1 ts)) (λ x. before x.1 (g.define s at (a.0).text x.0)) y b.2 in
      let d = bind_ok (expects (is_terminal (Separator Equals)) (drop 1 ts)) _ c.0 c.1 in
      let terminal = expects_ok (Separator Equals) (drop 1 ts) d.0 d.1 in
      let end = expected_ok (Separator Semicolon) (term_by g s d.0) c.0 d.2 in
      let same = before_ok c.0.1 (g.define s at (a.0).text c.0.0) y.0 y.1 c.2 in
      let p = subst (λ r. IsPhrase term 0 d.0 (ended end.0 r)) same (term_found s d.0 (c.0.0, ended end.0 c.0.1) end.1) in
      after_word (definition a.0 terminal.0 p.phrase end.0) at text ts y.1 (name_leaf ts a.0 a.1 ∙ ap (cons_token Name a.0) (terminal.1 ∙ ap (cons_token (Separator Equals) terminal.0) p.spelled)) p.obeys p.fits

  prog_found : (s : S) (at : ℕ) (text : List ℕ) (ts : List Lexeme) (y : S × List Lexeme) → prog_by g s at ts ≡ Ok y → ItemFound (lexeme (Keyword word.Prog) at text ∷ ts) y.1
  prog_found s at text ts y e =
      let a = bind_ok (name_at ts) _ y e in
      let b = bind_ok (g.check_new s (a.0).at (a.0).text) _ y a.2 in
      let c = bind_ok (block_by g s (drop 1 ts)) (λ x. g.check_numbers s (until ts x.1) >>= λ v. before x.1 (g.define_prog s at (a.0).text x.0)) y b.2 in
      let d = bind_ok (g.check_numbers s (until ts c.0.1)) (λ v. before c.0.1 (g.define_prog s at (a.0).text c.0.0)) y c.2 in
      let same = before_ok c.0.1 (g.define_prog s at (a.0).text c.0.0) y.0 y.1 d.2 in
      let p = subst (λ r. IsBlockPhrase block 0 (drop 1 ts) r) same (block_found s (drop 1 ts) c.0 c.1) in
      after_word (program a.0 p.phrase) at text ts y.1 (name_leaf ts a.0 a.1 ∙ ap (cons_token Name a.0) p.spelled) p.obeys p.fits

  setting_found : (what : Setting) (s : S) (at : ℕ) (ts : List Lexeme) (y : S × List Lexeme) → setting_by g what s at ts ≡ Ok y → (n : Numeral) × (end : Leaf) × (ts ≡ numeral_onto n (ended end y.1)) × NumeralFits n
  setting_found what s at ts y e =
      let a = bind_ok (g.begin_setting what s at) _ y e in
      let b = expected_ok (Separator Semicolon) (at_number (g.set what s) ts) y a.2 in
      let c = number_found (g.set what s) ts (y.0, ended b.0 y.1) b.1 in
      (c.0, b.0, c.1, c.2)

  zero_found : (s : S) (at : ℕ) (text : List ℕ) (ts : List Lexeme) (y : S × List Lexeme) → zero_by g s at ts ≡ Ok y → ItemFound (lexeme (Keyword word.Hyp) at text ∷ ts) y.1
  zero_found s at text ts y e =
      let a = done_ok (g.state_zero s at) (then_expects (is_terminal Zero) (then_expects (is_terminal (Separator Equals)) (term_by g s ts))) y e in
      let b = expected_ok Zero (then_expects (is_terminal (Separator Equals)) (term_by g s ts)) (a.0, ended a.1 y.1) a.2 in
      let c = expected_ok (Separator Equals) (term_by g s ts) (a.0, cons_token Zero b.0 (ended a.1 y.1)) b.1 in
      let p = term_found s ts (a.0, cons_token (Separator Equals) c.0 (cons_token Zero b.0 (ended a.1 y.1))) c.1 in
      after_word (hypothesis p.phrase c.0 b.0 a.1) at text ts y.1 p.spelled p.obeys p.fits

  hyp_found : (s : S) (at : ℕ) (text : List ℕ) (ts : List Lexeme) (y : S × List Lexeme) → hyp_by g s at ts ≡ Ok y → ItemFound (lexeme (Keyword word.Hyp) at text ∷ ts) y.1
  hyp_found s at text ts y e =
      let a = bind_ok (g.begin_hyp s at) _ y e in
      chosen {X = ItemFound (lexeme (Keyword word.Hyp) at text ∷ ts) y.1} (heads (is_terminal (Keyword word.Triple)) ts) (then_do (g.state_triple s at) (triple_by g s false (drop 1 ts))) (zero_by g s at ts) y
      (λ h k.
      let b = done_ok (g.state_triple s at) (triple_by g s false (drop 1 ts)) y k in
      let x = triple_found s false (drop 1 ts) (b.0, ended b.1 y.1) b.2 in
      let l = terminal_headed (Keyword word.Triple) ts h in
      after_word (hyp_triple l.0 x.triple b.1) at text ts y.1 (l.1 ∙ ap (cons_token (Keyword word.Triple) l.0) x.spelled) x.obeys x.fits)
      (λ h k. zero_found s at text ts y k)
      a.2

  posed_found : (s : S) (at : ℕ) (text : List ℕ) (ts : List Lexeme) (y : S × List Lexeme) → posed_by g s at ts ≡ Ok y → ItemFound (lexeme (Keyword word.Goal) at text ∷ ts) y.1
  posed_found s at text [] y e = absurd cc
  posed_found s at text (lexeme (Keyword word.Equal) place name ∷ ts) y e =
      let a = posed_ok g s ts _ (sides_by g s ts) y e in
      let x = sides_found s ts (a.0, ended a.1 y.1) a.2 in
      after_word (goal_equal (leaf place name) x.left x.comma x.right a.1) at text _ y.1 (ap (λ us. lexeme (Keyword word.Equal) place name ∷ us) x.spelled) x.obey x.fits
  posed_found s at text (lexeme (Keyword word.Below) place name ∷ ts) y e =
      let a = posed_ok g s ts _ (sides_by g s ts) y e in
      let x = sides_found s ts (a.0, ended a.1 y.1) a.2 in
      after_word (goal_below (leaf place name) x.left x.comma x.right a.1) at text _ y.1 (ap (λ us. lexeme (Keyword word.Below) place name ∷ us) x.spelled) x.obey x.fits
  posed_found s at text (lexeme (Keyword word.Triple) place name ∷ ts) y e =
      let a = posed_ok g s ts (g.pose_triple s at) (triple_by g s true ts) y e in
      let x = triple_found s true ts (a.0, ended a.1 y.1) a.2 in
      after_word (goal_triple (leaf place name) x.triple a.1) at text _ y.1 (ap (λ us. lexeme (Keyword word.Triple) place name ∷ us) x.spelled) x.obeys x.fits
  posed_found s at text (lexeme _ place name ∷ ts) y e = absurd cc

  item_found : (s : S) (ts : List Lexeme) (y : S × List Lexeme) → item_by g s ts ≡ Ok y → ItemFound ts y.1
  item_found s [] y e = absurd cc
  item_found s (lexeme (Keyword word.Test) at text ∷ ts) y e = let a = declaration_found (g.declare what.Test) s ts y e in after_word (tests a.0 a.1) at text ts y.1 a.2 tt tt
  item_found s (lexeme (Keyword word.Action) at text ∷ ts) y e = let a = declaration_found (g.declare what.Action) s ts y e in after_word (actions a.0 a.1) at text ts y.1 a.2 tt tt
  item_found s (lexeme (Keyword word.Var) at text ∷ ts) y e = let a = declaration_found (g.declare what.Var) s ts y e in after_word (variables a.0 a.1) at text ts y.1 a.2 tt tt
  item_found s (lexeme (Keyword word.Term) at text ∷ ts) y e = definition_found s at text ts y e
  item_found s (lexeme (Keyword word.Prog) at text ∷ ts) y e = prog_found s at text ts y e
  item_found s (lexeme (Keyword word.Hyp) at text ∷ ts) y e = hyp_found s at text ts y e
  item_found s (lexeme (Keyword word.Rounds) at text ∷ ts) y e = let a = setting_found _ s at ts y e in after_word (rounds a.0 a.1) at text ts y.1 a.2 tt a.3
  item_found s (lexeme (Keyword word.Width) at text ∷ ts) y e = let a = setting_found _ s at ts y e in after_word (width a.0 a.1) at text ts y.1 a.2 tt a.3
  item_found s (lexeme (Keyword word.Goal) at text ∷ ts) y e = let a = bind_ok (g.begin_goal s at) _ y e in posed_found s at text ts y a.2
  item_found s (lexeme _ at text ∷ ts) y e = absurd cc

  within_found : (n : ℕ) (s t : S) (ts : List Lexeme) → items_within (item_by g) n s ts ≡ Ok t → IsSomeFile ts
  within_found zero s t ts e = absurd cc
  within_found (suc n) s t [] e = ([], record { file = record { spells = refl; obey = tt }; fit = tt })
  within_found (suc n) s t (l ∷ ts) e =
      let a = bind_ok (item_by g s (l ∷ ts)) (λ x. items_within (item_by g) n x.0 x.1) t e in
      let more = within_found n a.0.0 t a.0.1 a.2 in
      let found = subst (λ r. ItemFound (l ∷ ts) r) more.1.file.spells (item_found s (l ∷ ts) a.0 a.1) in
      (found.item ∷ more.0, record { file = record { spells = found.spelled; obey = (found.obeys, more.1.file.obey) }; fit = (found.fits, more.1.fit) })

  pub items_found : (s t : S) (ts : List Lexeme) → items_by g s ts ≡ Ok t → IsSomeFile ts
  items_found s t ts e = within_found (suc (length ts)) s t ts e
