-- The tests of tokens never fail with out of memory: reading takes fewer steps than its bound.
use Rattle.std.proofs.Common.{◌≡◌, refl, ℕ, zero, suc, ◌+◌, ◌<◌, List, [], ◌∷◌, length, drop, Bool, true, false, cond, nat_lt, ◌||◌, Option, Some, None, Ok, Err, arith}
use Rattle.kat_model.specs.declared.limits.TheConstants.{MAX_TERM_NODES, MAX_TEXT_NODES}
use Rattle.text_parser.specs.declared.fault.TextFault.TheVariants.{Syntax, TooLarge}
use Rattle.text_parser.specs.declared.terminal.Terminal.TheVariants.{Name, Keyword, Separator, Dot}
use Rattle.text_parser.specs.declared.terminal.Keyword.TheVariants as word
use Rattle.text_parser.specs.declared.terminal.Separator.TheVariants.{Semicolon, CurlyOpen, CurlyClose, Equals}
use Rattle.text_parser.specs.Lexemes.{Lexeme, lexeme, heads, is_terminal}
use Rattle.text_parser.specs.Parsed.{Parsed, ◌>>=◌, then_expects, place_of}
use Rattle.text_parser.specs.Actions.{context}
use Rattle.text_parser.specs.Scans.{scanning}
use Rattle.text_parser.specs.Terms.{parse_term, choice}
use Rattle.text_parser.proofs.Within.{headed}
use Rattle.text_parser.proofs.NamedFaults.{IsNamed, then_named, bind_named, if_named, change_named, then_expects_named, term_named}
use Rattle.text_parser.specs.ScopeParts.{ScopeParts}
use Rattle.text_parser.specs.Building.{trees}
use Rattle.text_parser.specs.Measuring.{extents}
use Rattle.while_lang.specs.Blocks.{enter}
use Rattle.problem_file.specs.Items.{number_at}
use Rattle.while_lang.proofs.BlockFaults.{enter_named}
use Rattle.problem_file.proofs.NamedBlocks.{expected_named}
use Rattle.problem_file.proofs.NamedItems.{number_at_named}
use Rattle.problem_file.proofs.NamedTexts.{extents_named, trees_named, scanning_named}
use Rattle.chain_rules.specs.declared.chain.Axiom.{Axiom}
use Rattle.chain_proofs.specs.ChainActions.{ChainActions}
use Rattle.chain_proofs.specs.ChainWalks.{is_word, expects_word, rule_name, has_number, argument, parts_by, path_by, rule_by, ChainAim, whole_chain, lines_after, ChainParser, braces_by, inner_by, line_by, chain_by, chain_within, parse_chain}
use Rattle.chain_proofs.specs.ChainScans.{scanning_chain, ends, scan_chain}
use Rattle.chain_proofs.specs.ChainMaking.{known_axiom, axiom_named, total_with, sized_term, making_chain, make_chain}
use Rattle.chain_proofs.specs.Reads.{tested}
use Rattle.chain_proofs.proofs.ChainSteps.{tail_shorter, rule_short, IsShort, line_short, within_short}

-- ---- reading

rule_name_named : (ts : List Lexeme) → IsNamed (rule_name ts)
rule_name_named [] = tt
rule_name_named (lexeme Name at text ∷ ts) = tt
rule_name_named (lexeme (Keyword word.Hyp) at text ∷ ts) = tt
rule_name_named (lexeme _ at text ∷ ts) = tt

argument_named : (name : List ℕ) (ts : List Lexeme) → IsNamed (argument name ts)
argument_named name ts =
    if_named (has_number name) (number_at ts >>= λ n. Ok (n, drop 1 ts)) (Ok (0, ts))
    (λ e. then_named (number_at ts) (λ n. Ok (n, drop 1 ts)) (number_at_named ts) (λ n. tt))
    (λ e. tt)

word_named : {V : Type 0} (w : List ℕ) (ts : List Lexeme) (k : List Lexeme → Parsed V) → ((us : List Lexeme) → length us < length ts → IsNamed (k us)) → IsNamed (expects_word w ts >>= k)
word_named w ts k h = by_test (is_word w ts) refl where
  by_test : (b : Bool) → is_word w ts ≡ b → IsNamed (cond b (Ok (drop 1 ts)) (Err (Syntax (place_of ts))) >>= k)
  by_test true e = h (drop 1 ts) (tail_shorter w ts e)
  by_test false e = tt

module _ {Z T R P V : Type 0} (g : ChainActions Z T R P V) (terms : (d : ℕ) (z : Z) (ts : List Lexeme) → IsNamed (g.term d z ts)) (rules : (at : ℕ) (name : List ℕ) (n : ℕ) → IsNamed (g.rule at name n)) where
  parts_named : (p : P) (ts : List Lexeme) → IsNamed (parts_by g p ts)
  unfolding parts_by
  parts_named p [] = tt
  parts_named p (x ∷ []) = if_named (heads (is_terminal Dot) (x ∷ [])) _ (Ok (p, x ∷ [])) (λ e. tt) (λ e. tt)
  parts_named p (x ∷ y ∷ ts) =
      if_named (heads (is_terminal Dot) (x ∷ y ∷ ts)) (number_at (y ∷ ts) >>= λ n. parts_by g (g.part p n) ts) (Ok (p, x ∷ y ∷ ts))
      (λ e. then_named (number_at (y ∷ ts)) (λ n. parts_by g (g.part p n) ts) (number_at_named (y ∷ ts)) (λ n. parts_named (g.part p n) ts))
      (λ e. tt)

  path_named : (ts : List Lexeme) → IsNamed (path_by g ts)
  path_named ts =
      if_named (is_word _ ts) (number_at (drop 1 ts) >>= λ n. parts_by g (g.part g.whole n) (drop 2 ts)) (Ok (g.whole, ts))
      (λ e. then_named (number_at (drop 1 ts)) (λ n. parts_by g (g.part g.whole n) (drop 2 ts)) (number_at_named (drop 1 ts)) (λ n. parts_named (g.part g.whole n) (drop 2 ts)))
      (λ e. tt)

  rule_named : (ts : List Lexeme) → IsNamed (rule_by g ts)
  rule_named ts =
      then_named (rule_name ts) _ (rule_name_named ts)
      (λ w. then_named (argument w.1 (drop 1 ts)) _ (argument_named w.1 (drop 1 ts))
      (λ n. then_named (g.rule w.0 w.1 n.0) _ (rules w.0 w.1 n.0)
      (λ r. change_named _ (path_by g n.1) (path_named n.1))))

  abbrev NamesBelow : ChainParser Z V → ℕ → Type 0
  NamesBelow f n = (x : ChainAim Z V) (d : ℕ) (ts : List Lexeme) → length ts < n → IsNamed (f x d ts)

  braces_named : (f : ChainParser Z V) (z : Z) (d : ℕ) (ts : List Lexeme) → NamesBelow f (length ts) → IsNamed (braces_by f z d ts)
  braces_named f z d ts a =
      expected_named (is_terminal (Separator CurlyOpen)) ts (λ us. enter d (place_of ts) >>= λ e. then_expects (is_terminal (Separator CurlyClose)) (f (whole_chain z) e us))
      (λ us lt. then_named (enter d (place_of ts)) (λ e. then_expects (is_terminal (Separator CurlyClose)) (f (whole_chain z) e us)) (enter_named d (place_of ts))
      (λ e. then_expects_named (is_terminal (Separator CurlyClose)) (f (whole_chain z) e us) (a (whole_chain z) e us lt)))

  inner_named : (f : ChainParser Z V) (b : Bool) (z : Z) (d : ℕ) (ts : List Lexeme) → NamesBelow f (length ts) → IsNamed (inner_by f b z d ts)
  inner_named f b z d ts a = if_named b _ (Ok ((None, z), ts)) (λ e. change_named _ (braces_by f z d ts) (braces_named f z d ts a)) (λ e. tt)

  line_named : (f : ChainParser Z V) → (v : V) (z : Z) (d : ℕ) (ts : List Lexeme) → NamesBelow f (length ts) → IsNamed (line_by g f v z d ts)
  line_named f v z d ts a =
      bind_named (length ts) (g.term d z ts) _ (terms d z ts) (g.shorter d z ts)
      (λ t lt. word_named _ t.1 _
      (λ b less. bind_named (length b) (rule_by g b) _ (rule_named b) (rule_short g b)
      (λ r fewer. then_named (inner_by f (r.0).inner (t.0).1 d r.1) _ (inner_named f (r.0).inner (t.0).1 d r.1 (λ x e us le. a x e us (omega arith)))
      (λ i. then_expects_named (is_terminal (Separator Semicolon)) (Ok ((g.line v (t.0).0 (r.0).rule (r.0).path (i.0).0, (i.0).1), i.1)) tt))))

  chain_step_named : (f : ChainParser Z V) → IsShort f → (x : ChainAim Z V) (d : ℕ) (ts : List Lexeme) → NamesBelow f (length ts) → IsNamed (chain_by g f x d ts)
  chain_step_named f s (whole_chain z) d ts a =
      bind_named (length ts) (g.term d z ts) _ (terms d z ts) (g.shorter d z ts) (λ t lt. a (lines_after (g.first (t.0).0) (t.0).1) d t.1 lt)
  chain_step_named f s (lines_after v z) d ts a =
      if_named (heads (is_terminal (Separator Equals)) ts) _ (Ok ((v, z), ts))
      (λ e. let lt = headed (is_terminal (Separator Equals)) ts e in
      bind_named (length (drop 1 ts)) (line_by g f v z d (drop 1 ts)) (λ x. f (lines_after (x.0).0 (x.0).1) d x.1)
      (line_named f v z d (drop 1 ts) (λ x e us less. a x e us (omega (arith, lt)))) (line_short g f s v z d (drop 1 ts)) (λ x less. a (lines_after (x.0).0 (x.0).1) d x.1 (omega (arith, lt))))
      (λ e. tt)

  within_named : (n : ℕ) (x : ChainAim Z V) (d : ℕ) (ts : List Lexeme) → length ts < n → IsNamed (chain_within g n x d ts)
  unfolding chain_within
  within_named zero x d ts lt = absurd (omega arith)
  within_named (suc n) x d ts lt = chain_step_named (chain_within g n) (within_short g n) x d ts (λ y e us below. within_named n y e us (omega arith))

  pub chain_named : (x : ChainAim Z V) (d : ℕ) (ts : List Lexeme) → IsNamed (parse_chain g x d ts)
  unfolding parse_chain
  chain_named x d ts = within_named (suc (length ts)) x d ts (omega arith)

-- ---- the parts of a chain

axiom_known : (at : ℕ) (o : Option Axiom) → IsNamed (known_axiom at o)
axiom_known at None = tt
axiom_known at (Some rule) = tt

total_named : (at total nodes : ℕ) → IsNamed (total_with at total nodes)
total_named at total nodes = if_named (nat_lt MAX_TERM_NODES nodes || nat_lt MAX_TEXT_NODES (total + nodes)) (Err (TooLarge at)) (Ok (total + nodes)) (λ e. tt) (λ e. tt)

-- ---- texts

ends_named : (ts : List Lexeme) → IsNamed (ends ts)
ends_named [] = tt
ends_named (lexeme s at text ∷ ts) = tt

scan_named : (ts : List Lexeme) → IsNamed (scan_chain ts)
scan_named ts =
    then_named (parse_chain scanning_chain (whole_chain tt) 0 ts) _
    (chain_named scanning_chain (λ d z us. change_named _ (parse_term scanning choice (context d false false) us) (term_named scanning scanning_named choice (context d false false) us)) (λ at name n. tt) (whole_chain tt) 0 ts)
    (λ x. ends_named x.1)

sized_named : (w : ScopeParts) (d total : ℕ) (ts : List Lexeme) → IsNamed (sized_term w d total ts)
sized_named w d total ts =
    let c = context d false false in
    then_named (parse_term (extents w) choice c ts) _ (term_named (extents w) (extents_named w) choice c ts)
    (λ m. then_named (total_with (place_of ts) total (m.0).nodes) _ (total_named (place_of ts) total (m.0).nodes)
    (λ all. change_named _ (parse_term (trees w) choice c ts) (term_named (trees w) (trees_named w) choice c ts)))

make_named : (w : ScopeParts) (ts : List Lexeme) → IsNamed (make_chain w ts)
make_named w ts =
    then_named (parse_chain (making_chain w) (whole_chain 0) 0 ts) _
    (chain_named (making_chain w) (sized_named w) (λ at name n. axiom_known at (axiom_named name n)) (whole_chain 0) 0 ts)
    (λ x. tt)

pub tested_named : (w : ScopeParts) (ts : List Lexeme) → IsNamed (tested w ts)
tested_named w ts = then_named (scan_chain ts) _ (scan_named ts) (λ u. make_named w ts)
