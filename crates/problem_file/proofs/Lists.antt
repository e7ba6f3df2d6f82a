-- Lists of names and of items. The rest of a list has fewer tokens, so fewer steps suffice for it.
use Rattle.std.proofs.Common.{◌≡◌, ℕ, zero, suc, ◌<◌, ◌≤◌, List, [], ◌∷◌, length, true, Result, Ok, Err, refl, ap, sym, ◌∙◌, arith, drop, length-drop}
use Rattle.text_parser.specs.declared.fault.TextFault.{TextFault}
use Rattle.text_parser.specs.declared.fault.TextFault.TheVariants.{NoMemory}
use Rattle.text_parser.specs.declared.token.Token.{Token}
use Rattle.text_parser.specs.declared.terminal.Terminal.TheVariants.{Separator}
use Rattle.text_parser.specs.declared.terminal.Separator.TheVariants.{Comma}
use Rattle.text_parser.specs.Lexemes.{Lexeme, lexemes, heads, is_terminal}
use Rattle.text_parser.specs.Parsed.{Parsed}
use Rattle.text_parser.proofs.Within.{Within}
use Rattle.text_parser.proofs.NamedFaults.{IsNamed, bind_named}
use Rattle.problem_file.specs.Items.{at_name, names_within, items_within, over_items}
use Rattle.problem_file.specs.Working.Walks.{Steps, Does}

-- enough steps remain for these names, and they result in `m`
abbrev pub NamesLeft : {S : Type 0} → (S → ℕ → List ℕ → Result S TextFault) → S → List Lexeme → Parsed S → Type 0
NamesLeft f s ts m = (n : ℕ) × (length ts ≤ n) × (names_within (suc n) f s ts ≡ m)

-- after a name and a comma, enough steps remain
pub names_go : {S : Type 0} (f : S → ℕ → List ℕ → Result S TextFault) (s u : S) (ts us : List Lexeme) (m : Parsed S) → NamesLeft f s ts m → at_name (f s) ts ≡ Ok (u, us) → heads (is_terminal (Separator Comma)) us ≡ true → length us < length ts → NamesLeft f u (drop 1 us) m
names_go f s u ts us m (zero, le, e) step comma less = absurd (omega arith)
names_go f s u ts us m (suc n, le, e) step comma less = (n, omega (arith, length-drop 1 us), sym (rw (step, comma) refl) ∙ e)

module _ {S : Type 0} (item : S → List Lexeme → Parsed S) where
  -- enough steps remain for these items, and they result in `m`
  abbrev pub ItemsLeft : S → List Lexeme → Result S TextFault → Type 0
  ItemsLeft s ts m = (n : ℕ) × (length ts ≤ n) × (items_within item (suc n) s ts ≡ m)

  -- after an item, enough steps remain
  pub items_go : (s u : S) (ts us : List Lexeme) (m : Result S TextFault) → ItemsLeft s ts m → 0 < length ts → item s ts ≡ Ok (u, us) → length us < length ts → ItemsLeft u us m
  items_go s u [] us m left some step less = absurd (omega arith)
  items_go s u (t ∷ ts) us m (zero, le, e) some step less = absurd (omega arith)
  items_go s u (t ∷ ts) us m (suc n, le, e) some step less = (n, omega arith, sym (rw step refl) ∙ e)

  items_fail : (s : S) (ts : List Lexeme) (x : TextFault) (m : Result S TextFault) → ItemsLeft s ts m → 0 < length ts → item s ts ≡ Err x → m ≡ Err x
  items_fail s [] x m left some step = absurd (omega arith)
  items_fail s (t ∷ ts) x m (n, le, e) some step = sym e ∙ rw step refl

  -- an item with a fault ends the reading
  pub item_fails : (memory : Type 0) (s t : S) (ts : List Token) (at : ℕ) (m : Result S TextFault) (e : TextFault) → ItemsLeft s (drop at (lexemes ts)) m → 0 < length (drop at (lexemes ts)) → Steps memory ts at (Err e) t (item s) → Does {X = Unit {0}} memory (Err e) t m
  item_fails memory s t ts at m NoMemory left some h = h
  item_fails memory s t ts at m e left some h = items_fail s (drop at (lexemes ts)) e m left some h

  -- no fault is `NoMemory` if no item has such a fault
  module _ (named : (s : S) (ts : List Lexeme) → IsNamed (item s ts)) (short : (s : S) (ts : List Lexeme) → Within (length ts) (item s ts)) where
    within_named : (n : ℕ) (s : S) (ts : List Lexeme) → length ts < n → IsNamed (items_within item n s ts)
    within_named zero s ts lt = absurd (omega arith)
    within_named (suc n) s [] lt = tt
    within_named (suc n) s (t ∷ ts) lt = bind_named (length (t ∷ ts)) (item s (t ∷ ts)) (λ x. items_within item n x.0 x.1) (named s (t ∷ ts)) (short s (t ∷ ts)) (λ x less. within_named n x.0 x.1 (omega arith))

    pub items_named : (s : S) (ts : List Lexeme) → IsNamed (over_items item s ts)
    items_named s ts = within_named (suc (length ts)) s ts (omega arith)

-- fewer tokens remain after a later index
pub drop_less : {T : Type 0} (n m : ℕ) (xs : List T) → n < m → n < length xs → length (drop m xs) < length (drop n xs)
drop_less n m xs later within = omega (arith, length-drop m xs, length-drop n xs)

pub lexemes_length : (ts : List Token) → length (lexemes ts) ≡ length ts
lexemes_length [] = refl
lexemes_length (t ∷ ts) = ap suc (lexemes_length ts)
