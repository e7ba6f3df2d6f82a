-- Names separated by commas: the tokens read are names, reading them gives the fold over the names, fewer tokens
-- remain, and no fault is `NoMemory` if the action at a name gives no such fault.
use Rattle.std.proofs.Common.{◌≡◌, ℕ, zero, suc, ◌<◌, ◌≤◌, List, [], ◌∷◌, length, length-drop, drop, false, cond as if_true, Result, Ok, Err, refl, ap, ◌∙◌, arith}
use Rattle.text_parser.specs.declared.fault.TextFault.{TextFault}
use Rattle.text_parser.specs.declared.terminal.Terminal.TheVariants.{Name, Separator}
use Rattle.text_parser.specs.declared.terminal.Separator.TheVariants.{Comma, Semicolon}
use Rattle.text_parser.specs.Lexemes.{Lexeme, lexeme, heads, is_terminal}
use Rattle.text_parser.specs.Parsed.{Parsed, ◌>>=◌, before, then_expects}
use Rattle.text_parser.specs.Phrases.{Leaf, cons_token}
use Rattle.text_parser.proofs.Within.{Within, bind_within, if_within, weaken, before_within, then_expects_within}
use Rattle.text_parser.proofs.NamedFaults.{IsNamed, then_named, bind_named, if_named, before_named, then_expects_named}
use Rattle.text_parser.proofs.ParserSoundness.{leaf, bind_ok, chosen, before_ok, expected_ok, terminal_headed}
use Rattle.text_parser.proofs.ParserCompleteness.{then_rest, closed}
use Rattle.while_lang.proofs.BlockSoundness.{rest_of}
use Rattle.problem_file.specs.Items.{name_at, at_name, names_within, over_names, declaration_by}
use Rattle.problem_file.specs.Phrases.{Names, one_name, more_names, names_onto, ended}
use Rattle.problem_file.specs.Folds.{fold_names}

-- ---- the tokens read are names

pub name_leaf : (ts : List Lexeme) (l : Leaf) → name_at ts ≡ Ok l → ts ≡ cons_token Name l (drop 1 ts)
name_leaf [] l e = absurd cc
name_leaf (lexeme Name at text ∷ ts) l e = let same : leaf at text ≡ l = cc in ap (λ m. cons_token Name m ts) same
name_leaf (lexeme _ at text ∷ ts) l e = absurd cc

name_found : {S : Type 0} (f : ℕ → List ℕ → Result S TextFault) (ts : List Lexeme) (y : S × List Lexeme) → at_name f ts ≡ Ok y → (l : Leaf) × (ts ≡ cons_token Name l y.1)
name_found f ts y e =
    let a = bind_ok (name_at ts) (λ l. before (drop 1 ts) (f l.at l.text)) y e in
    let same = before_ok (drop 1 ts) (f (a.0).at (a.0).text) y.0 y.1 a.2 in
    (a.0, name_leaf ts a.0 a.1 ∙ ap (cons_token Name a.0) same)

abbrev NamesFound : List Lexeme → List Lexeme → Type 0
NamesFound ts rest = (ns : Names) × (ts ≡ names_onto ns rest)

names_found : {S : Type 0} (f : S → ℕ → List ℕ → Result S TextFault) (n : ℕ) (s : S) (ts : List Lexeme) (y : S × List Lexeme) → names_within n f s ts ≡ Ok y → NamesFound ts y.1
names_found f zero s ts y e = absurd cc
names_found {S} f (suc n) s ts y e =
    let a = bind_ok (at_name (f s) ts) (λ x. if_true (heads (is_terminal (Separator Comma)) x.1) (names_within n f x.0 (drop 1 x.1)) (Ok x)) y e in
    let x = a.0 in
    let name = name_found (f s) ts x a.1 in
    chosen {X = NamesFound ts y.1} (heads (is_terminal (Separator Comma)) x.1) (names_within n f x.0 (drop 1 x.1)) (Ok x) y
    (λ h k.
    let c = terminal_headed (Separator Comma) x.1 h in
    let more = names_found f n x.0 (drop 1 x.1) y k in
    (more_names name.0 c.0 more.0, name.1 ∙ ap (cons_token Name name.0) (c.1 ∙ ap (cons_token (Separator Comma) c.0) more.1)))
    (λ h k. (one_name name.0, name.1 ∙ ap (λ (m : Parsed S). cons_token Name name.0 (rest_of m)) k))
    a.2

pub declaration_found : {S : Type 0} (f : S → ℕ → List ℕ → Result S TextFault) (s : S) (ts : List Lexeme) (y : S × List Lexeme) → declaration_by f s ts ≡ Ok y → (ns : Names) × (end : Leaf) × (ts ≡ names_onto ns (ended end y.1))
declaration_found f s ts y e =
    let a = expected_ok (Separator Semicolon) (over_names f s ts) y e in
    let b = names_found f (suc (length ts)) s ts (y.0, ended a.0 y.1) a.1 in
    (b.0, a.0, b.1)

-- ---- the fold over names

pub names_long : (ns : Names) (ts : List Lexeme) → length ts < length (names_onto ns ts)
names_long (one_name l) ts = omega arith
names_long (more_names l c ns) ts = omega (arith, names_long ns ts)

module _ {S : Type 0} (f : S → ℕ → List ℕ → Result S TextFault) where
  last_name : (n : ℕ) (ts : List Lexeme) (r : Result S TextFault) → heads (is_terminal (Separator Comma)) ts ≡ false → (before ts r >>= λ x. if_true (heads (is_terminal (Separator Comma)) x.1) (names_within n f x.0 (drop 1 x.1)) (Ok x)) ≡ before ts r
  last_name n ts (Ok x) last = rw last refl
  last_name n ts (Err e) last = refl

  names_folded : (ns : Names) (s : S) (ts : List Lexeme) (n : ℕ) → heads (is_terminal (Separator Comma)) ts ≡ false → length (names_onto ns ts) ≤ n → names_within (suc n) f s (names_onto ns ts) ≡ before ts (fold_names f s ns)
  names_folded (one_name l) s ts n last le = last_name n ts (f s l.at l.text) last
  names_folded (more_names l c ns) s ts zero last le = absurd (omega (arith, le))
  names_folded (more_names l c ns) s ts (suc n) last le = then_rest (cons_token (Separator Comma) c (names_onto ns ts)) ts (f s l.at l.text) (λ x. if_true (heads (is_terminal (Separator Comma)) x.1) (names_within (suc n) f x.0 (drop 1 x.1)) (Ok x)) (λ u. fold_names f u ns) (λ u. names_folded ns u ts n last (omega (arith, le)))

  pub declaration_folded : (ns : Names) (s : S) (end : Leaf) (ts : List Lexeme) → declaration_by f s (names_onto ns (ended end ts)) ≡ before ts (fold_names f s ns)
  declaration_folded ns s end ts = ap (then_expects (is_terminal (Separator Semicolon))) (names_folded ns s (ended end ts) (length (names_onto ns (ended end ts))) refl (omega arith)) ∙ closed (Separator Semicolon) end ts (fold_names f s ns) refl

-- ---- fewer tokens remain, and no fault is `NoMemory`

pub name_at_named : (ts : List Lexeme) → IsNamed (name_at ts)
name_at_named [] = tt
name_at_named (lexeme Name at text ∷ ts) = tt
name_at_named (lexeme _ at text ∷ ts) = tt

at_name_named : {S : Type 0} (f : ℕ → List ℕ → Result S TextFault) (ts : List Lexeme) → ((at : ℕ) (text : List ℕ) → IsNamed (f at text)) → IsNamed (at_name f ts)
at_name_named f ts h = then_named (name_at ts) (λ l. before (drop 1 ts) (f l.at l.text)) (name_at_named ts) (λ l. before_named (drop 1 ts) (f l.at l.text) (h l.at l.text))

at_name_short : {S : Type 0} (f : ℕ → List ℕ → Result S TextFault) (ts : List Lexeme) → Within (length ts) (at_name f ts)
at_name_short f [] = tt
at_name_short f (lexeme Name at text ∷ ts) = before_within (suc (length ts)) ts (f at text) (omega arith)
at_name_short f (lexeme _ at text ∷ ts) = tt

names_named : {S : Type 0} (f : S → ℕ → List ℕ → Result S TextFault) → ((s : S) (at : ℕ) (text : List ℕ) → IsNamed (f s at text)) → (n : ℕ) (s : S) (ts : List Lexeme) → length ts < n → IsNamed (names_within n f s ts)
names_named f h zero s ts lt = absurd (omega arith)
names_named f h (suc n) s ts lt = bind_named (length ts) (at_name (f s) ts) _ (at_name_named (f s) ts (h s)) (at_name_short (f s) ts)
    (λ x below. if_named (heads (is_terminal (Separator Comma)) x.1) (names_within n f x.0 (drop 1 x.1)) (Ok x) (λ k. names_named f h n x.0 (drop 1 x.1) (omega (arith, length-drop 1 x.1))) (λ k. tt))

names_short : {S : Type 0} (f : S → ℕ → List ℕ → Result S TextFault) (n : ℕ) (s : S) (ts : List Lexeme) → Within (length ts) (names_within n f s ts)
names_short f zero s ts = tt
names_short f (suc n) s ts = bind_within (length ts) (length ts) (at_name (f s) ts) _ (at_name_short (f s) ts)
    (λ x below. if_within (length ts) (heads (is_terminal (Separator Comma)) x.1) (names_within n f x.0 (drop 1 x.1)) (Ok x)
    (λ k. weaken (length (drop 1 x.1)) (length ts) (names_within n f x.0 (drop 1 x.1)) (omega (arith, length-drop 1 x.1)) (names_short f n x.0 (drop 1 x.1)))
    (λ k. below))

pub declaration_named : {S : Type 0} (f : S → ℕ → List ℕ → Result S TextFault) → ((s : S) (at : ℕ) (text : List ℕ) → IsNamed (f s at text)) → (s : S) (ts : List Lexeme) → IsNamed (declaration_by f s ts)
declaration_named f h s ts = then_expects_named (is_terminal (Separator Semicolon)) (over_names f s ts) (names_named f h (suc (length ts)) s ts (omega arith))

pub declaration_short : {S : Type 0} (f : S → ℕ → List ℕ → Result S TextFault) (s : S) (ts : List Lexeme) → Within (length ts) (declaration_by f s ts)
declaration_short f s ts = then_expects_within (is_terminal (Separator Semicolon)) (length ts) (over_names f s ts) (names_short f (suc (length ts)) s ts)
