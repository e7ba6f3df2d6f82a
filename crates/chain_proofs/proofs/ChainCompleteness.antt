-- Reading the tokens of a chain gives its fold.
use Rattle.std.proofs.Common.{◌≡◌, ℕ, List, Bool, true, false, Option, None, Some, Result, Ok, Err, refl, ap, sym, ◌∙◌, drop}
use Rattle.std.specs.Option.{is_some}
use Rattle.std.specs.Str.{bytes_eq}
use Rattle.std.specs.Prelude.{codes}
use Rattle.text_parser.specs.declared.fault.TextFault.{TextFault}
use Rattle.text_parser.specs.declared.terminal.Terminal.TheVariants.{Name, Separator, Dot}
use Rattle.text_parser.specs.declared.terminal.Separator.TheVariants.{Semicolon, CurlyOpen, CurlyClose, Equals}
use Rattle.text_parser.specs.Lexemes.{Lexeme, heads, is_terminal}
use Rattle.text_parser.specs.Parsed.{Parsed, ◌>>=◌, before, change, then_expects}
use Rattle.text_parser.specs.Phrases.{term, Leaf, Phrase, cons_token, yield_before, MeetsLookahead}
use Rattle.text_parser.specs.Ends.{Ends}
use Rattle.text_parser.proofs.ParserCompleteness.{then_rest, checked, changed, closed}
use Rattle.while_lang.specs.Blocks.{enter}
use Rattle.problem_file.specs.Items.{number_at}
use Rattle.problem_file.specs.Phrases.{Numeral, zero_number, one_number, other_number, wide_number, numeral_onto}
use Rattle.problem_file.specs.Folds.{numeral_value}
use Rattle.chain_proofs.specs.ChainActions.{ChainActions}
use Rattle.chain_proofs.specs.ChainWalks.{is_word, expects_word, rule_name, has_number, has_inner, argument, parts_by, path_by, Reason, rule_by, whole_chain, lines_after, ChainParser, braces_by, inner_by, line_by, parse_chain}
use Rattle.chain_proofs.specs.ChainPhrases.{RuleWord, plain, keyword, rule_leaf, Parts, no_parts, more_parts, Place, no_place, at_place, RulePhrase, Lines, no_lines, plain_line, line_around, ChainPhrase}
use Rattle.chain_proofs.specs.ChainPhrases.{word_onto, number_onto, parts_onto, place_onto, rule_onto, reason_onto, ended, lines_onto, chain_onto, PlaceObeys, RuleObeys, LinesObey}
use Rattle.chain_proofs.specs.ChainFolds.{fold_number, fold_parts, fold_place, fold_rule, TermFold, fold_lines, fold_chain}
use Rattle.chain_proofs.proofs.PathSteps.{parts_step}
use Rattle.chain_proofs.proofs.ChainSteps.{chain_step}

-- the tokens do not continue a rule: they begin with neither a path nor a further part of a path
pub record EndsRule (ts : List Lexeme) : Type 0 where
  pub no_path : is_word (codes "at") ts ≡ false
  pub no_part : heads (is_terminal Dot) ts ≡ false

numeral_read : (n : Numeral) (ts : List Lexeme) → number_at (numeral_onto n ts) ≡ numeral_value n
numeral_read (zero_number l) ts = refl
numeral_read (one_number l) ts = refl
numeral_read (other_number l n) ts = refl
numeral_read (wide_number l) ts = refl

numeral_rest : (n : Numeral) (ts : List Lexeme) → drop 1 (numeral_onto n ts) ≡ ts
numeral_rest (zero_number l) ts = refl
numeral_rest (one_number l) ts = refl
numeral_rest (other_number l n) ts = refl
numeral_rest (wide_number l) ts = refl

argument_read : (name : List ℕ) (n : Option Numeral) (ts : List Lexeme) → is_some n ≡ has_number name → argument name (number_onto n ts) ≡ before ts (fold_number n)
argument_read name None ts e = let no : has_number name ≡ false = sym e in rw no refl
argument_read name (Some n) ts e = let yes : has_number name ≡ true = sym e in rw (yes, numeral_read n ts, numeral_rest n ts) refl

name_read : (w : RuleWord) (ts : List Lexeme) → rule_name (word_onto w ts) ≡ Ok ((rule_leaf w).at, (rule_leaf w).text)
name_read (plain l) ts = refl
name_read (keyword l) ts = refl

name_rest : (w : RuleWord) (ts : List Lexeme) → drop 1 (word_onto w ts) ≡ ts
name_rest (plain l) ts = refl
name_rest (keyword l) ts = refl

-- three steps followed by a continuation
then_three : {A B C Y W : Type 0} (m : Result A TextFault) (n : A → Result B TextFault) (o : Result C TextFault) (mk : B → C → Y) (us ts : List Lexeme) (k : Y × List Lexeme → Parsed W) (l : Y → Result W TextFault) →
    ((x : B) (p : C) → k (mk x p, us) ≡ before ts (l (mk x p))) → (before us (m >>= λ a. n a >>= λ x. o >>= λ p. Ok (mk x p)) >>= k) ≡ before ts ((m >>= λ a. n a >>= λ x. o >>= λ p. Ok (mk x p)) >>= l)
then_three {A} {B} {C} {Y} m n o mk us ts k l h = by_first m where
  by_third : (x : B) (o' : Result C TextFault) → (before us (o' >>= λ p. Ok (mk x p)) >>= k) ≡ before ts ((o' >>= λ p. Ok (mk x p)) >>= l)
  by_third x (Ok p) = h x p
  by_third x (Err e) = refl

  by_second : (b : Result B TextFault) → (before us (b >>= λ x. o >>= λ p. Ok (mk x p)) >>= k) ≡ before ts ((b >>= λ x. o >>= λ p. Ok (mk x p)) >>= l)
  by_second (Ok x) = by_third x o
  by_second (Err e) = refl

  by_first : (a : Result A TextFault) → (before us (a >>= λ a. n a >>= λ x. o >>= λ p. Ok (mk x p)) >>= k) ≡ before ts ((a >>= λ a. n a >>= λ x. o >>= λ p. Ok (mk x p)) >>= l)
  by_first (Ok a) = by_second (n a)
  by_first (Err e) = refl

module _ {Z T R P V : Type 0} (g : ChainActions Z T R P V) where
  parts_read : (p : P) (ps : Parts) (ts : List Lexeme) → heads (is_terminal Dot) ts ≡ false → parts_by g p (parts_onto ps ts) ≡ before ts (fold_parts g p ps)
  parts_read p no_parts ts h = parts_step g p ts ∙ rw h refl
  parts_read p (more_parts dot n ps) ts h =
      let us = parts_onto ps ts in
      parts_step g p (cons_token Dot dot (numeral_onto n us))
      ∙ rw (numeral_read n us, numeral_rest n us) (checked ts (numeral_value n) (λ v. parts_by g (g.part p v) us) (λ v. fold_parts g (g.part p v) ps) (λ v. parts_read (g.part p v) ps ts h))

  place_read : (x : Place) (ts : List Lexeme) → PlaceObeys x → EndsRule ts → path_by g (place_onto x ts) ≡ before ts (fold_place g x)
  place_read no_place ts o ends = rw ends.no_path refl
  place_read (at_place l n ps) ts o ends =
      let us = parts_onto ps ts in
      rw (o, numeral_read n us, numeral_rest n us) (checked ts (numeral_value n) (λ v. parts_by g (g.part g.whole v) us) (λ v. fold_parts g (g.part g.whole v) ps) (λ v. parts_read (g.part g.whole v) ps ts ends.no_part))

  abbrev reason : RulePhrase → R → P → Reason R P
  reason r x p = record { rule = x; path = p; inner = has_inner (rule_leaf r.name).text }

  rule_read : (r : RulePhrase) (ts : List Lexeme) → is_some r.number ≡ has_number (rule_leaf r.name).text → PlaceObeys r.place → EndsRule ts → rule_by g (rule_onto r ts) ≡ before ts (fold_rule g r)
  rule_read r ts number place ends =
      let us = place_onto r.place ts in
      let vs = number_onto r.number us in
      let l = rule_leaf r.name in
      rw (name_read r.name vs, name_rest r.name vs)
      (ap (λ (m : Parsed ℕ). m >>= λ n. g.rule l.at l.text n.0 >>= λ x. change (reason r x) (path_by g n.1)) (argument_read l.text r.number us number)
      ∙ then_rest us ts (fold_number r.number) (λ n. g.rule l.at l.text n.0 >>= λ x. change (reason r x) (path_by g n.1)) (λ n. g.rule l.at l.text n >>= λ x. fold_place g r.place >>= λ p. Ok (reason r x p))
      (λ n. checked ts (g.rule l.at l.text n) (λ x. change (reason r x) (path_by g us)) (λ x. fold_place g r.place >>= λ p. Ok (reason r x p))
      (λ x. ap (change (reason r x)) (place_read r.place ts place ends) ∙ changed ts (reason r x) (fold_place g r.place))))

  word_read : (w : List ℕ) (l : Leaf) (ts : List Lexeme) → bytes_eq l.text w ≡ true → expects_word w (cons_token Name l ts) ≡ Ok ts
  word_read w l ts h = rw h refl

module _ {Z T R P V : Type 0} (g : ChainActions Z T R P V) (t : TermFold Z T) (reads : (d : ℕ) (z : Z) (p : Phrase term) (ts : List Lexeme) → MeetsLookahead p ts → Ends term ts → g.term d z (yield_before p ts) ≡ before ts (t d z p)) where
  abbrev f : ChainParser Z V
  f = parse_chain g

  -- the chain extended by a line, from the parts of the line
  abbrev lined : V → T → Reason R P → Option V × Z → V × Z
  lined v x r i = (g.line v x r.rule r.path i.0, i.1)

  abbrev after_inner : V → T → Reason R P → (Option V × Z) × List Lexeme → Parsed (V × Z)
  after_inner v x r i = then_expects (is_terminal (Separator Semicolon)) (Ok (lined v x r i.0, i.1))

  abbrev after_rule : V → ℕ → T × Z → Reason R P × List Lexeme → Parsed (V × Z)
  after_rule v d x r = inner_by f (r.0).inner x.1 d r.1 >>= after_inner v x.0 r.0

  abbrev after_term : V → ℕ → (T × Z) × List Lexeme → Parsed (V × Z)
  after_term v d x = expects_word (codes "by") x.1 >>= λ b. rule_by g b >>= after_rule v d x.0

  -- reading a line is its fold if reading what follows its rule is
  line_read : (v : V) (z : Z) (d : ℕ) (p : Phrase term) (by : Leaf) (r : RulePhrase) (b : Bool) (us ts : List Lexeme) (l : T × Z → Reason R P → Result (V × Z) TextFault) →
      MeetsLookahead p (reason_onto by r us) → RuleObeys by r b → EndsRule us → ((x : T × Z) (y : R) (q : P) → after_rule v d x (reason g r y q, us) ≡ before ts (l x (reason g r y q))) →
      line_by g f v z d (yield_before p (reason_onto by r us)) ≡ before ts (t d z p >>= λ x. fold_rule g r >>= l x)
  line_read v z d p by r b us ts l o rule ends h =
      ap (λ (m : Parsed (T × Z)). m >>= after_term v d) (reads d z p (reason_onto by r us) o refl)
      ∙ then_rest (reason_onto by r us) ts (t d z p) (after_term v d) (λ x. fold_rule g r >>= l x)
      (λ x. ap (λ (m : Result (List Lexeme) TextFault). m >>= λ b. rule_by g b >>= after_rule v d x) (word_read g (codes "by") by (rule_onto r us) rule.word)
      ∙ ap (λ (m : Parsed (Reason R P)). m >>= after_rule v d x) (rule_read g r us rule.number rule.place ends)
      ∙ then_three (fold_number r.number) (λ n. g.rule (rule_leaf r.name).at (rule_leaf r.name).text n) (fold_place g r.place) (reason g r) us ts (after_rule v d x) (l x) (h x))

  abbrev Read : ℕ → Lines → Type 0
  Read d ls = (v : V) (z : Z) (ts : List Lexeme) → heads (is_terminal (Separator Equals)) ts ≡ false → Ends term ts → LinesObey ls ts → f (lines_after v z) d (lines_onto ls ts) ≡ before ts (fold_lines g t d v z ls)

  -- the lines and the tokens after them do not continue a term
  lines_end : (ls : Lines) (ts : List Lexeme) → Ends term ts → Ends term (lines_onto ls ts)
  lines_end no_lines ts e = e
  lines_end (plain_line equals p by r end rest) ts e = refl
  lines_end (line_around equals p by r opening first inner closing end rest) ts e = refl

  abbrev go_on : ℕ → (V × Z) × List Lexeme → Parsed (V × Z)
  go_on d x = f (lines_after (x.0).0 (x.0).1) d x.1

  -- reading a chain in braces is its fold if reading its lines is
  braces_read : (z : Z) (d : ℕ) (opening closing : Leaf) (first : Phrase term) (inner : Lines) (us : List Lexeme) → ((e : ℕ) → Read e inner) →
      MeetsLookahead first (lines_onto inner (cons_token (Separator CurlyClose) closing us)) → LinesObey inner (cons_token (Separator CurlyClose) closing us) →
      braces_by f z d (cons_token (Separator CurlyOpen) opening (yield_before first (lines_onto inner (cons_token (Separator CurlyClose) closing us)))) ≡ before us (enter d opening.at >>= λ e. t e z first >>= λ a. fold_lines g t e (g.first a.0) a.1 inner)
  braces_read z d opening closing first inner us read o obey =
      let vs = cons_token (Separator CurlyClose) closing us in
      checked us (enter d opening.at) (λ e. then_expects (is_terminal (Separator CurlyClose)) (f (whole_chain z) e (yield_before first (lines_onto inner vs)))) (λ e. t e z first >>= λ a. fold_lines g t e (g.first a.0) a.1 inner)
      (λ e. ap (then_expects (is_terminal (Separator CurlyClose)))
      (chain_step g (whole_chain z) e (yield_before first (lines_onto inner vs))
      ∙ ap (λ (m : Parsed (T × Z)). m >>= λ a. f (lines_after (g.first (a.0).0) (a.0).1) e a.1) (reads e z first (lines_onto inner vs) o (lines_end inner vs refl))
      ∙ then_rest (lines_onto inner vs) vs (t e z first) (λ a. f (lines_after (g.first (a.0).0) (a.0).1) e a.1) (λ a. fold_lines g t e (g.first a.0) a.1 inner) (λ a. read e (g.first a.0) a.1 vs refl refl obey))
      ∙ closed (Separator CurlyClose) closing us (t e z first >>= λ a. fold_lines g t e (g.first a.0) a.1 inner) refl)

  -- the inner chain of a line, up to the semicolon
  around_read : (v : V) (x : T) (r : Reason R P) (end : Leaf) (ts : List Lexeme) (m : Result (V × Z) TextFault) →
      (change (λ (c : V × Z). (Some c.0, c.1)) (before (ended end ts) m) >>= after_inner v x r) ≡ before ts (m >>= λ c. Ok (g.line v x r.rule r.path (Some c.0), c.1))
  around_read v x r end ts (Ok c) = refl
  around_read v x r end ts (Err e) = refl

  entered : (m : Result ℕ TextFault) (k : ℕ → Result (V × Z) TextFault) (l : V × Z → Result (V × Z) TextFault) (ts : List Lexeme) → before ts ((m >>= k) >>= l) ≡ before ts (m >>= λ e. k e >>= l)
  entered (Ok e) k l ts = refl
  entered (Err e) k l ts = refl

  pub lines_read : (ls : Lines) (d : ℕ) → Read d ls
  lines_read no_lines d v z ts h ends o = chain_step g (lines_after v z) d ts ∙ rw h refl
  lines_read (plain_line equals p by r end rest) d v z ts h ends o =
      let us = lines_onto rest ts in
      let last : T × Z → Reason R P → Result (V × Z) TextFault = λ x y. Ok (g.line v x.0 y.rule y.path None, x.1) in
      let no : has_inner (rule_leaf r.name).text ≡ false = sym (o.1).chain in
      chain_step g (lines_after v z) d (lines_onto (plain_line equals p by r end rest) ts)
      ∙ ap (λ (m : Parsed (V × Z)). m >>= go_on d)
      (line_read v z d p by r false (ended end us) us last o.0 o.1 (record { no_path = refl; no_part = refl }) (λ x y q. rw no refl))
      ∙ then_rest us ts (t d z p >>= λ x. fold_rule g r >>= last x) (go_on d) (λ c. fold_lines g t d c.0 c.1 rest) (λ c. lines_read rest d c.0 c.1 ts h ends o.2)
  lines_read (line_around equals p by r opening first inner closing end rest) d v z ts h ends o =
      let us = lines_onto rest ts in
      let vs = ended end us in
      let ws = cons_token (Separator CurlyOpen) opening (yield_before first (lines_onto inner (cons_token (Separator CurlyClose) closing vs))) in
      let within : ℕ → T × Z → Result (V × Z) TextFault = λ e x. t e x.1 first >>= λ a. fold_lines g t e (g.first a.0) a.1 inner in
      let last : T × Z → Reason R P → Result (V × Z) TextFault = λ x y. enter d opening.at >>= λ e. within e x >>= λ c. Ok (g.line v x.0 y.rule y.path (Some c.0), c.1) in
      let yes : has_inner (rule_leaf r.name).text ≡ true = sym (o.1).chain in
      chain_step g (lines_after v z) d (lines_onto (line_around equals p by r opening first inner closing end rest) ts)
      ∙ ap (λ (m : Parsed (V × Z)). m >>= go_on d)
      (line_read v z d p by r true ws us last o.0 o.1 (record { no_path = refl; no_part = refl })
      (λ x y q. rw yes
      (ap (λ (m : Parsed (V × Z)). change (λ (c : V × Z). (Some c.0, c.1)) m >>= after_inner v x.0 (reason g r y q)) (braces_read x.1 d opening closing first inner vs (lines_read inner) o.2 o.3)
      ∙ around_read v x.0 (reason g r y q) end us (enter d opening.at >>= λ e. within e x)
      ∙ entered (enter d opening.at) (λ e. within e x) (λ c. Ok (g.line v x.0 y q (Some c.0), c.1)) us)))
      ∙ then_rest us ts (t d z p >>= λ x. fold_rule g r >>= last x) (go_on d) (λ c. fold_lines g t d c.0 c.1 rest) (λ c. lines_read rest d c.0 c.1 ts h ends o.4)

  pub chain_read : (p : ChainPhrase) (d : ℕ) (z : Z) (ts : List Lexeme) → heads (is_terminal (Separator Equals)) ts ≡ false → Ends term ts → MeetsLookahead p.first (lines_onto p.lines ts) → LinesObey p.lines ts →
      f (whole_chain z) d (chain_onto p ts) ≡ before ts (fold_chain g t d z p)
  chain_read p d z ts h ends o obey =
      let us = lines_onto p.lines ts in
      chain_step g (whole_chain z) d (chain_onto p ts)
      ∙ ap (λ (m : Parsed (T × Z)). m >>= λ a. f (lines_after (g.first (a.0).0) (a.0).1) d a.1) (reads d z p.first us o (lines_end p.lines ts ends))
      ∙ then_rest us ts (t d z p.first) (λ a. f (lines_after (g.first (a.0).0) (a.0).1) d a.1) (λ a. fold_lines g t d (g.first a.0) a.1 p.lines) (λ a. lines_read p.lines d (g.first a.0) a.1 ts h ends obey)
