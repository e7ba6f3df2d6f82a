-- What is read as a chain from the start of the tokens is a chain.
use Rattle.std.proofs.Common.{◌≡◌, ℕ, zero, suc, ◌+◌, ◌<◌, List, [], ◌∷◌, Bool, true, false, cond as if_true, Option, None, Some, Result, Ok, Err, refl, ap, sym, subst, ◌∙◌, drop}
use Rattle.std.specs.Option.{is_some}
use Rattle.std.specs.Str.{bytes_eq}
use Rattle.std.specs.Prelude.{codes}
use Rattle.std.proofs.lemmas.List.{drop-drop}
use Rattle.kat_model.specs.declared.limits.TheConstants.{MAX_OPEN}
use Rattle.text_parser.specs.declared.fault.TextFault.{TextFault}
use Rattle.text_parser.specs.declared.fault.TextFault.TheVariants.{Syntax}
use Rattle.text_parser.specs.declared.terminal.Terminal.TheVariants.{Name, Keyword, Separator, Dot}
use Rattle.text_parser.specs.declared.terminal.Keyword.TheVariants as word
use Rattle.text_parser.specs.declared.terminal.Separator.TheVariants.{Semicolon, CurlyOpen, CurlyClose, Equals}
use Rattle.text_parser.specs.Lexemes.{Lexeme, lexeme, heads, is_terminal}
use Rattle.text_parser.specs.Parsed.{Parsed, ◌>>=◌, change, expects, place_of}
use Rattle.text_parser.specs.Phrases.{term, Leaf, cons_token, IsPhrase}
use Rattle.text_parser.proofs.TerminalEquality.{expects_ok}
use Rattle.text_parser.proofs.ParserSoundness.{leaf, bind_ok, chosen, changed_ok, expected_ok, terminal_headed}
use Rattle.while_lang.specs.Blocks.{enter}
use Rattle.while_lang.proofs.BlockSoundness.{enter_ok, rest_of}
use Rattle.problem_file.specs.Items.{number_at}
use Rattle.problem_file.specs.Phrases.{Numeral, numeral_onto}
use Rattle.problem_file.proofs.FoundItems.{numeral_found}
use Rattle.chain_proofs.specs.ChainActions.{ChainActions}
use Rattle.chain_proofs.specs.ChainWalks.{is_word, expects_word, rule_name, has_number, has_inner, argument, parts_by, path_by, Reason, rule_by, ChainAim, whole_chain, lines_after, ChainParser, braces_by, inner_by, line_by, chain_by, chain_within, parse_chain}
use Rattle.chain_proofs.specs.ChainPhrases.{RuleWord, plain, keyword, rule_leaf, Parts, no_parts, more_parts, Place, no_place, at_place, RulePhrase, Lines, no_lines, plain_line, line_around}
use Rattle.chain_proofs.specs.ChainPhrases.{word_onto, number_onto, parts_onto, place_onto, rule_onto, reason_onto, ended, lines_onto, chain_onto, PlaceObeys, LinesObey, NumberFits, PartsFit, PlaceFits, RuleFits, LinesFit, IsChainPhrase}

abbrev tokens_of : Result (List Lexeme) TextFault → List Lexeme
tokens_of (Ok ts) = ts
tokens_of (Err e) = []

-- ---- names and numbers

-- a word at the start
pub word_headed : (w : List ℕ) (ts : List Lexeme) → is_word w ts ≡ true → (l : Leaf) × (ts ≡ cons_token Name l (drop 1 ts)) × (bytes_eq l.text w ≡ true)
word_headed w [] e = absurd cc
word_headed w (lexeme Name at text ∷ ts) e = (leaf at text, refl, e)
word_headed w (lexeme _ at text ∷ ts) e = absurd cc

word_ok : (w : List ℕ) (ts us : List Lexeme) → expects_word w ts ≡ Ok us → (l : Leaf) × (ts ≡ cons_token Name l us) × (bytes_eq l.text w ≡ true)
word_ok w ts us e = by_test (is_word w ts) refl e where
  by_test : (b : Bool) → is_word w ts ≡ b → if_true b (Ok (drop 1 ts)) (Err (Syntax (place_of ts))) ≡ Ok us → (l : Leaf) × (ts ≡ cons_token Name l us) × (bytes_eq l.text w ≡ true)
  by_test true h k =
      let x = word_headed w ts h in
      let same : drop 1 ts ≡ us = ap tokens_of k in
      (x.0, x.1 ∙ ap (cons_token Name x.0) same, x.2)
  by_test false h k = absurd cc

abbrev text_given : Result (ℕ × List ℕ) TextFault → List ℕ
text_given (Ok x) = x.1
text_given (Err e) = []

name_ok : (ts : List Lexeme) (x : ℕ × List ℕ) → rule_name ts ≡ Ok x → (w : RuleWord) × (ts ≡ word_onto w (drop 1 ts)) × ((rule_leaf w).text ≡ x.1)
name_ok [] x e = absurd cc
name_ok (lexeme Name at text ∷ ts) x e = (plain (leaf at text), refl, ap text_given e)
name_ok (lexeme (Keyword word.Hyp) at text ∷ ts) x e = (keyword (leaf at text), refl, ap text_given e)
name_ok (lexeme _ at text ∷ ts) x e = absurd cc

-- the tokens begin with the number that the name of a rule requires
pub record IsArgument (name : List ℕ) (ts rest : List Lexeme) : Type 0 where
  pub number : Option Numeral
  pub spelled : ts ≡ number_onto number rest
  pub there : is_some number ≡ has_number name
  pub fits : NumberFits number

argument_ok : (name : List ℕ) (ts : List Lexeme) (y : ℕ × List Lexeme) → argument name ts ≡ Ok y → IsArgument name ts y.1
argument_ok name ts y e =
    chosen (has_number name) (number_at ts >>= λ n. Ok (n, drop 1 ts)) (Ok (0, ts)) y
    (λ h k. let a = bind_ok (number_at ts) (λ n. Ok (n, drop 1 ts)) y k in
    let x = numeral_found ts a.0 a.1 in
    let same : drop 1 ts ≡ y.1 = ap rest_of a.2 in
    record { number = Some x.0; spelled = x.1 ∙ ap (numeral_onto x.0) same; there = sym h; fits = x.2 })
    (λ h k. record { number = None; spelled = ap rest_of k; there = sym h; fits = tt })
    e

-- the tokens begin with parts of a path
pub record AreParts (ts rest : List Lexeme) : Type 0 where
  pub phrase : Parts
  pub spelled : ts ≡ parts_onto phrase rest
  pub fit : PartsFit phrase

none_there : (ts rest : List Lexeme) → ts ≡ rest → AreParts ts rest
none_there ts rest e = record { phrase = no_parts; spelled = e; fit = tt }

module _ {Z T R P V : Type 0} (g : ChainActions Z T R P V) where
  parts_ok : (p : P) (ts : List Lexeme) (y : P × List Lexeme) → parts_by g p ts ≡ Ok y → AreParts ts y.1
  unfolding parts_by
  parts_ok p [] y e = none_there [] y.1 (ap rest_of e)
  parts_ok p (x ∷ []) y e =
      chosen (heads (is_terminal Dot) (x ∷ [])) _ (Ok (p, x ∷ [])) y (λ h k. absurd cc) (λ h k. none_there (x ∷ []) y.1 (ap rest_of k)) e
  parts_ok p (x ∷ z ∷ ts) y e =
      chosen (heads (is_terminal Dot) (x ∷ z ∷ ts)) (number_at (z ∷ ts) >>= λ n. parts_by g (g.part p n) ts) (Ok (p, x ∷ z ∷ ts)) y
      (λ h k. let w = terminal_headed Dot (x ∷ z ∷ ts) h in
      let a = bind_ok (number_at (z ∷ ts)) (λ n. parts_by g (g.part p n) ts) y k in
      let n = numeral_found (z ∷ ts) a.0 a.1 in
      let q = parts_ok (g.part p a.0) ts y a.2 in
      record {
        phrase = more_parts w.0 n.0 q.phrase;
        spelled = w.1 ∙ ap (cons_token Dot w.0) (n.1 ∙ ap (numeral_onto n.0) q.spelled);
        fit = (n.2, q.fit);
      })
      (λ h k. none_there (x ∷ z ∷ ts) y.1 (ap rest_of k))
      e

  -- the tokens begin with an optional path
  pub record IsPlace (ts rest : List Lexeme) : Type 0 where
    pub phrase : Place
    pub spelled : ts ≡ place_onto phrase rest
    pub obeys : PlaceObeys phrase
    pub fits : PlaceFits phrase

  path_ok : (ts : List Lexeme) (y : P × List Lexeme) → path_by g ts ≡ Ok y → IsPlace ts y.1
  path_ok ts y e =
      chosen (is_word (codes "at") ts) (number_at (drop 1 ts) >>= λ n. parts_by g (g.part g.whole n) (drop 2 ts)) (Ok (g.whole, ts)) y
      (λ h k. let w = word_headed (codes "at") ts h in
      let a = bind_ok (number_at (drop 1 ts)) (λ n. parts_by g (g.part g.whole n) (drop 2 ts)) y k in
      let n = numeral_found (drop 1 ts) a.0 a.1 in
      let q = parts_ok (g.part g.whole a.0) (drop 2 ts) y a.2 in
      record {
        phrase = at_place w.0 n.0 q.phrase;
        spelled = w.1 ∙ ap (cons_token Name w.0) (n.1 ∙ ap (numeral_onto n.0) (drop-drop 1 1 ts ∙ q.spelled));
        obeys = w.2;
        fits = (n.2, q.fit);
      })
      (λ h k. record { phrase = no_place; spelled = ap rest_of k; obeys = tt; fits = tt })
      e

  -- the tokens begin with a rule with its number and its path
  pub record IsRule (inner : Bool) (ts rest : List Lexeme) : Type 0 where
    pub phrase : RulePhrase
    pub spelled : ts ≡ rule_onto phrase rest
    pub number : is_some phrase.number ≡ has_number (rule_leaf phrase.name).text
    pub chain : inner ≡ has_inner (rule_leaf phrase.name).text
    pub place : PlaceObeys phrase.place
    pub fits : RuleFits phrase

  abbrev reason_given : Reason R P → Parsed (Reason R P) → Reason R P
  reason_given z (Ok x) = x.0
  reason_given z (Err e) = z

  rule_ok : (ts : List Lexeme) (y : Reason R P × List Lexeme) → rule_by g ts ≡ Ok y → IsRule (y.0).inner ts y.1
  rule_ok ts y e =
      let a = bind_ok (rule_name ts) _ y e in
      let w = name_ok ts a.0 a.1 in
      let b = bind_ok (argument (a.0).1 (drop 1 ts)) _ y a.2 in
      let n = argument_ok (a.0).1 (drop 1 ts) b.0 b.1 in
      let c = bind_ok (g.rule (a.0).0 (a.0).1 (b.0).0) _ y b.2 in
      let made : P → Reason R P = λ p. record { rule = c.0; path = p; inner = has_inner (a.0).1 } in
      let k = changed_ok made (path_by g (b.0).1) y.0 y.1 c.2 in
      let p = path_ok (b.0).1 (k.0, y.1) k.1 in
      let same : made k.0 ≡ y.0 = sym (ap (reason_given y.0) (sym c.2 ∙ ap (change made) k.1)) in
      record {
        phrase = record { name = w.0; number = n.number; place = p.phrase };
        spelled = w.1 ∙ ap (word_onto w.0) (n.spelled ∙ ap (number_onto n.number) p.spelled);
        number = n.there ∙ ap has_number (sym w.2);
        chain = sym (ap (λ (r : Reason R P). r.inner) same) ∙ ap has_inner (sym w.2);
        place = p.obeys;
        fits = (n.fits, p.fits);
      }

-- the tokens begin with lines
pub record AreLines (d : ℕ) (ts rest : List Lexeme) : Type 0 where
  pub phrase : Lines
  pub spelled : ts ≡ lines_onto phrase rest
  pub obey : LinesObey phrase rest
  pub fit : LinesFit d phrase

-- an inner chain in braces after a rule, or nothing
pub data Inner (d : ℕ) (inner : Bool) (ts rest : List Lexeme) : Type 0 where
  nothing_there : (given : inner ≡ false) → (same : ts ≡ rest) → Inner d inner ts rest
  chain_there : (given : inner ≡ true) → (opening closing : Leaf) → (us : List Lexeme) → (spelled : ts ≡ cons_token (Separator CurlyOpen) opening us) → (lt : d < MAX_OPEN) → (c : IsChainPhrase (d + 1) us (cons_token (Separator CurlyClose) closing rest)) → Inner d inner ts rest

-- a chain is a term followed by lines
chain_found : (d : ℕ) (ts mid rest : List Lexeme) → IsPhrase term d ts mid → AreLines d mid rest → IsChainPhrase d ts rest
chain_found d ts mid rest p q =
    let k : IsPhrase term d ts (lines_onto q.phrase rest) = subst (IsPhrase term d ts) q.spelled p in
    record {
      phrase = record { first = k.phrase; lines = q.phrase };
      spelled = k.spelled;
      first_obeys = k.obeys;
      obey = q.obey;
      first_fits = k.fits;
      fit = q.fit;
    }

-- a complete line followed by lines gives lines
module _ {Z T R P V : Type 0} (g : ChainActions Z T R P V) where
  line_found : (d : ℕ) (equals by end : Leaf) (inner : Bool) (ts mid after rest us all : List Lexeme) →
      ts ≡ cons_token (Separator Equals) equals us → IsPhrase term d us (cons_token Name by mid) → bytes_eq by.text (codes "by") ≡ true → IsRule g inner mid after → Inner d inner after (ended end rest) → AreLines d rest all → AreLines d ts all
  line_found d equals by end inner ts mid after rest us all head t word r (nothing_there given same) q =
      let semi : after ≡ ended end (lines_onto q.phrase all) = same ∙ ap (ended end) q.spelled in
      let tail : mid ≡ rule_onto r.phrase (ended end (lines_onto q.phrase all)) = r.spelled ∙ ap (rule_onto r.phrase) semi in
      let k : IsPhrase term d us (reason_onto by r.phrase (ended end (lines_onto q.phrase all))) =
      subst (λ (x : List Lexeme). IsPhrase term d us (cons_token Name by x)) tail t in
      record {
        phrase = plain_line equals k.phrase by r.phrase end q.phrase;
        spelled = head ∙ ap (cons_token (Separator Equals) equals) k.spelled;
        obey = (k.obeys, record { word = word; number = r.number; chain = sym given ∙ r.chain; place = r.place }, q.obey);
        fit = (k.fits, r.fits, q.fit);
      }
  line_found d equals by end inner ts mid after rest us all head t word r (chain_there given opening closing vs spelled lt c) q =
      let last : List Lexeme = cons_token (Separator CurlyClose) closing (ended end (lines_onto q.phrase all)) in
      let closed : cons_token (Separator CurlyClose) closing (ended end rest) ≡ last = ap (λ (x : List Lexeme). cons_token (Separator CurlyClose) closing (ended end x)) q.spelled in
      let i : IsChainPhrase (d + 1) vs last = subst (IsChainPhrase (d + 1) vs) closed c in
      let braces : after ≡ cons_token (Separator CurlyOpen) opening (chain_onto i.phrase last) = spelled ∙ ap (cons_token (Separator CurlyOpen) opening) i.spelled in
      let tail : mid ≡ rule_onto r.phrase (cons_token (Separator CurlyOpen) opening (chain_onto i.phrase last)) = r.spelled ∙ ap (rule_onto r.phrase) braces in
      let k : IsPhrase term d us (reason_onto by r.phrase (cons_token (Separator CurlyOpen) opening (chain_onto i.phrase last))) =
      subst (λ (x : List Lexeme). IsPhrase term d us (cons_token Name by x)) tail t in
      record {
        phrase = line_around equals k.phrase by r.phrase opening (i.phrase).first (i.phrase).lines closing end q.phrase;
        spelled = head ∙ ap (cons_token (Separator Equals) equals) k.spelled;
        obey = (k.obeys, record { word = word; number = r.number; chain = sym given ∙ r.chain; place = r.place }, i.first_obeys, i.obey, q.obey);
        fit = (k.fits, r.fits, lt, i.first_fits, i.fit, q.fit);
      }

module _ {Z T R P V : Type 0} (g : ChainActions Z T R P V) (term_is : (d : ℕ) (z : Z) (ts : List Lexeme) (y : (T × Z) × List Lexeme) → g.term d z ts ≡ Ok y → IsPhrase term d ts y.1) where
  abbrev pub Found : ChainAim Z V → ℕ → List Lexeme → List Lexeme → Type 0
  Found (whole_chain z) d ts rest = IsChainPhrase d ts rest
  Found (lines_after v z) d ts rest = AreLines d ts rest

  abbrev pub Finds : ChainParser Z V → Type 0
  Finds f = (x : ChainAim Z V) (d : ℕ) (ts : List Lexeme) (y : (V × Z) × List Lexeme) → f x d ts ≡ Ok y → Found x d ts y.1

  braces_find : (f : ChainParser Z V) → Finds f → (z : Z) (d : ℕ) (ts : List Lexeme) (y : (V × Z) × List Lexeme) → braces_by f z d ts ≡ Ok y →
      (opening closing : Leaf) × (us : List Lexeme) × (ts ≡ cons_token (Separator CurlyOpen) opening us) × (d < MAX_OPEN) × IsChainPhrase (d + 1) us (cons_token (Separator CurlyClose) closing y.1)
  braces_find f s z d ts y e =
      let a = bind_ok (expects (is_terminal (Separator CurlyOpen)) ts) _ y e in
      let w = expects_ok (Separator CurlyOpen) ts a.0 a.1 in
      let b = bind_ok (enter d (place_of ts)) _ y a.2 in
      let n = enter_ok d b.0 (place_of ts) b.1 in
      let k = expected_ok (Separator CurlyClose) (f (whole_chain z) b.0 a.0) y b.2 in
      let h = s (whole_chain z) b.0 a.0 (y.0, cons_token (Separator CurlyClose) k.0 y.1) k.1 in
      (w.0, k.0, a.0, w.1, n.0, subst (λ (m : ℕ). IsChainPhrase m a.0 (cons_token (Separator CurlyClose) k.0 y.1)) n.1 h)

  inner_find : (f : ChainParser Z V) → Finds f → (b : Bool) (z : Z) (d : ℕ) (ts : List Lexeme) (y : (Option V × Z) × List Lexeme) → inner_by f b z d ts ≡ Ok y → Inner d b ts y.1
  inner_find f s b z d ts y e =
      chosen b (change (λ x. (Some x.0, x.1)) (braces_by f z d ts)) (Ok ((None, z), ts)) y
      (λ h k. let a = changed_ok (λ (x : V × Z). (Some x.0, x.1)) (braces_by f z d ts) y.0 y.1 k in
      let i = braces_find f s z d ts (a.0, y.1) a.1 in
      chain_there h i.0 i.1 i.2 i.3 i.4 i.5)
      (λ h k. nothing_there h (ap rest_of k))
      e

  abbrev line_given : V × Z → Parsed (V × Z) → V × Z
  line_given z (Ok x) = x.0
  line_given z (Err e) = z

  -- a line after its `=`, followed by lines, gives lines
  line_finds : (f : ChainParser Z V) → Finds f → (v : V) (z : Z) (d : ℕ) (equals : Leaf) (ts us rest : List Lexeme) (y : (V × Z) × List Lexeme) → ts ≡ cons_token (Separator Equals) equals us → line_by g f v z d us ≡ Ok y → AreLines d y.1 rest → AreLines d ts rest
  line_finds f s v z d equals ts us rest y head e q =
      let t = bind_ok (g.term d z us) _ y e in
      let b = bind_ok (expects_word (codes "by") (t.0).1) _ y t.2 in
      let w = word_ok (codes "by") (t.0).1 b.0 b.1 in
      let r = bind_ok (rule_by g b.0) _ y b.2 in
      let i = bind_ok (inner_by f ((r.0).0).inner ((t.0).0).1 d (r.0).1) _ y r.2 in
      let k = expected_ok (Separator Semicolon) (Ok ((g.line v ((t.0).0).0 ((r.0).0).rule ((r.0).0).path ((i.0).0).0, ((i.0).0).1), (i.0).1)) y i.2 in
      let semi : (i.0).1 ≡ ended k.0 y.1 = ap rest_of k.1 in
      let p : IsPhrase term d us (cons_token Name w.0 b.0) = subst (IsPhrase term d us) w.1 (term_is d z us t.0 t.1) in
      line_found g d equals w.0 k.0 ((r.0).0).inner ts b.0 (r.0).1 y.1 us rest head p w.2 (rule_ok g b.0 r.0 r.1)
      (subst (Inner d ((r.0).0).inner (r.0).1) semi (inner_find f s ((r.0).0).inner ((t.0).0).1 d (r.0).1 i.0 i.1)) q

  chain_finds : (f : ChainParser Z V) → Finds f → Finds (chain_by g f)
  chain_finds f s (whole_chain z) d ts y e =
      let t = bind_ok (g.term d z ts) (λ t. f (lines_after (g.first (t.0).0) (t.0).1) d t.1) y e in
      chain_found d ts (t.0).1 y.1 (term_is d z ts t.0 t.1) (s (lines_after (g.first ((t.0).0).0) ((t.0).0).1) d (t.0).1 y t.2)
  chain_finds f s (lines_after v z) d ts y e =
      chosen (heads (is_terminal (Separator Equals)) ts) (line_by g f v z d (drop 1 ts) >>= λ x. f (lines_after (x.0).0 (x.0).1) d x.1) (Ok ((v, z), ts)) y
      (λ h k. let w = terminal_headed (Separator Equals) ts h in
      let a = bind_ok (line_by g f v z d (drop 1 ts)) (λ x. f (lines_after (x.0).0 (x.0).1) d x.1) y k in
      line_finds f s v z d w.0 ts (drop 1 ts) y.1 a.0 w.1 a.1 (s (lines_after ((a.0).0).0 ((a.0).0).1) d (a.0).1 y a.2))
      (λ h k. record { phrase = no_lines; spelled = ap rest_of k; obey = tt; fit = tt })
      e

  within_chains : (n : ℕ) → Finds (chain_within g n)
  unfolding chain_within
  within_chains zero x d ts y e = absurd cc
  within_chains (suc n) x d ts y e = chain_finds (chain_within g n) (within_chains n) x d ts y e

  pub chain_is : Finds (parse_chain g)
  unfolding parse_chain
  chain_is x d ts y e = within_chains _ x d ts y e
