-- Parts that are read from the pieces of a text, step by step.
use Rattle.std.proofs.Common.{◌≡◌, ◌⊎◌, ◌+◌, ℕ, List, [], ◌∷◌, ◌++◌, length, map, drop, true, false, ◌||◌, nat_eq, nat_lt, Some, slice_get, refl, ap, ◌∙◌, inl, inr, arith}
use Rattle.std.specs.Prelude.{codes}
use Rattle.std.specs.Str.{bytes_eq}
use Rattle.std.proofs.lemmas.Bool.{eq-eqb, cases_Bool}
use Rattle.kat_model.specs.declared.limits.TheConstants.{MAX_OPEN}
use Rattle.text_parser.specs.declared.token.Kind.{Kind}
use Rattle.text_parser.specs.declared.token.Kind.TheVariants.{Name}
use Rattle.text_parser.specs.TokenParts.{TokenParts, token_parts}
use Rattle.text_parser.specs.Kinds.{IsToken, is_separator}
use Rattle.text_parser.specs.Pieces.{Piece, lexeme, gap, spelled, parts_from, EndsBefore, AreSeparate}
use Rattle.flow_syntax.specs.declared.rule.Mark.{Mark}
use Rattle.flow_syntax.specs.declared.rule.TheConstants.{OPEN_ROUND}
use Rattle.flow_syntax.specs.declared.rule.Part.{Part}
use Rattle.flow_syntax.specs.declared.rule.Part.TheVariants.{Token, Opening, Closing, Phrase}
use Rattle.flow_syntax.specs.declared.rule.Start.{Start}
use Rattle.flow_syntax.specs.declared.rule.Start.TheVariants.{Take, Open, Group, Otherwise}
use Rattle.flow_syntax.specs.declared.rule.Step.{Step}
use Rattle.flow_syntax.specs.declared.rule.Step.TheVariants.{Shift, Apply, Match, Close}
use Rattle.flow_syntax.specs.declared.terminal.TheConstants.{SEMICOLON, CURLY_CLOSE, MATCH}
use Rattle.flow_syntax.specs.Terminals.{terminal_of}
use Rattle.flow_syntax.specs.Marks.{marks_of}
use Rattle.flow_syntax.specs.Rules.{rule_parts, chosen}
use Rattle.flow_syntax.specs.Moves.{state, move, moved, predicted}
use Rattle.flow_syntax.specs.Derivations.{LeadsTo}
use Rattle.flow_syntax.specs.Values.{values}
use Rattle.flow_syntax.specs.Actions.{ValueSyntax, token}
use Rattle.flow_syntax.specs.Productions.{rules, listed_actions, act, actions}

-- ---- tokens outside of a `match`

abbrev pub mark_of : TokenParts → Mark
mark_of (token_parts kind at text) = record { terminal = terminal_of kind text; at = at }

abbrev pub marks_at : ℕ → List Piece → List Mark
marks_at at ps = map mark_of (parts_from at ps)

-- a token of this terminal that is not `match`
pub record IsWord (kind : Kind) (bytes : List ℕ) (k : ℕ) : Type 0 where
  pub token : IsToken kind bytes
  pub terminal : terminal_of kind bytes ≡ k
  pub other : bytes_eq bytes (codes "match") ≡ false
  pub outside : nat_eq k MATCH ≡ false

-- a token that neither begins nor ends an item
abbrev inner_token : TokenParts
inner_token = token_parts Name 0 (codes "x")

-- the tokens are seen alike where an item may begin and elsewhere
abbrev pub AreOutside : List TokenParts → Type 0
AreOutside ts = (marks_of ts ≡ map mark_of ts) × (drop 1 (marks_of (inner_token ∷ ts)) ≡ map mark_of ts)

one_outside : (kind : Kind) (bytes : List ℕ) (k at : ℕ) (ts : List TokenParts) → IsWord kind bytes k → AreOutside ts → AreOutside (token_parts kind at bytes ∷ ts)
one_outside kind bytes k at ts word rest = by_case (cases_Bool (nat_eq k SEMICOLON || nat_eq k CURLY_CLOSE)) where
  by_case : ((nat_eq k SEMICOLON || nat_eq k CURLY_CLOSE) ≡ true) ⊎ ((nat_eq k SEMICOLON || nat_eq k CURLY_CLOSE) ≡ false) → AreOutside (token_parts kind at bytes ∷ ts)
  by_case (inl e) = (
    rw (word.other, word.terminal, e) (ap (λ (l : List Mark). record { terminal = k; at = at } ∷ l) rest.0),
    rw (word.terminal, e) (ap (λ (l : List Mark). record { terminal = k; at = at } ∷ l) rest.0),
  )
  by_case (inr e) = (
    rw (word.other, word.terminal, e, word.outside) (ap (λ (l : List Mark). record { terminal = k; at = at } ∷ l) rest.1),
    rw (word.terminal, e, word.outside) (ap (λ (l : List Mark). record { terminal = k; at = at } ∷ l) rest.1),
  )

-- ---- parts that are read from pieces

-- the pieces from place `at` on are read as these parts inside `d` constructs, and then the text ends; `vs` are the values
-- of the parts
pub record Reads (d : ℕ) (parts : List Part) (at : ℕ) (ps : List Piece) (vs : List ValueSyntax) : Type 0 where
  pub separate : AreSeparate ps
  pub outside : AreOutside (parts_from at ps)
  pub steps : List Step
  pub leads : (end : ℕ) → LeadsTo rules end (state d parts (marks_at at ps)) steps (state 0 [] [])
  pub value : values actions steps (parts_from at ps) ≡ vs

-- the first token has this terminal
pub record Follows (x at : ℕ) (ps : List Piece) : Type 0 where
  pub place : ℕ
  pub others : List Mark
  pub are : marks_at at ps ≡ record { terminal = x; at = place } ∷ others

pub word_follows : {kind : Kind} {bytes : List ℕ} {k at : ℕ} {ps : List Piece} → IsWord kind bytes k → Follows k at (lexeme kind bytes ∷ ps)
word_follows {kind} {bytes} {k} {at} {ps} w = record {
  place = at;
  others = marks_at (at + length bytes) ps;
  are = ap (λ (t : ℕ). record { terminal = t; at = at } ∷ marks_at (at + length bytes) ps) w.terminal;
}

pub gap_follows : {x at b : ℕ} {ps : List Piece} → Follows x (at + 1) ps → Follows x at (gap b ∷ ps)
gap_follows f = record { place = f.place; others = f.others; are = f.are }

pub nothing_read : (at : ℕ) → Reads 0 [] at [] []
nothing_read at = record { separate = tt; outside = (refl, refl); steps = []; leads = λ end. refl; value = refl }

pub gap_read : {d at : ℕ} {parts : List Part} {b : ℕ} {ps : List Piece} {vs : List ValueSyntax} → is_separator b ≡ true → Reads d parts (at + 1) ps vs → Reads d parts at (gap b ∷ ps) vs
gap_read e r = record { separate = (e, r.separate); outside = r.outside; steps = r.steps; leads = r.leads; value = r.value }

-- ---- parts that are tokens

match_moves : (end d k at t : ℕ) (parts : List Part) (ms : List Mark) → t ≡ k → move rules end (state d (Token k ∷ parts) (record { terminal = t; at = at } ∷ ms)) ≡ moved Match (state d parts ms)
match_moves end d k at t parts ms e = rw (eq-eqb t k e) refl

pub token_read : {d at k : ℕ} {parts : List Part} {kind : Kind} {bytes : List ℕ} {ps : List Piece} {vs : List ValueSyntax} → IsWord kind bytes k → EndsBefore kind bytes (spelled ps) → Reads d parts (at + length bytes) ps vs → Reads d (Token k ∷ parts) at (lexeme kind bytes ∷ ps) (token (token_parts kind at bytes) ∷ vs)
token_read {d} {at} {k} {parts} {kind} {bytes} {ps} {vs} word ends r = record {
  separate = (word.token, ends, r.separate);
  outside = one_outside kind bytes k at (parts_from (at + length bytes) ps) word r.outside;
  steps = Match ∷ r.steps;
  leads = λ end. (state d parts (marks_at (at + length bytes) ps), match_moves end d k at (terminal_of kind bytes) parts (marks_at (at + length bytes) ps) word.terminal, r.leads end);
  value = ap (λ (us : List ValueSyntax). token (token_parts kind at bytes) ∷ us) r.value;
}

opening_moves : (end d k at t : ℕ) (parts : List Part) (ms : List Mark) → t ≡ k → nat_lt d MAX_OPEN ≡ true → move rules end (state d (Opening k ∷ parts) (record { terminal = t; at = at } ∷ ms)) ≡ moved Match (state (d + 1) parts ms)
opening_moves end d k at t parts ms e few = rw (eq-eqb t k e, few) refl

pub opening_read : {d at k : ℕ} {parts : List Part} {kind : Kind} {bytes : List ℕ} {ps : List Piece} {vs : List ValueSyntax} → nat_lt d MAX_OPEN ≡ true → IsWord kind bytes k → EndsBefore kind bytes (spelled ps) → Reads (d + 1) parts (at + length bytes) ps vs → Reads d (Opening k ∷ parts) at (lexeme kind bytes ∷ ps) (token (token_parts kind at bytes) ∷ vs)
opening_read {d} {at} {k} {parts} {kind} {bytes} {ps} {vs} few word ends r = record {
  separate = (word.token, ends, r.separate);
  outside = one_outside kind bytes k at (parts_from (at + length bytes) ps) word r.outside;
  steps = Match ∷ r.steps;
  leads = λ end. (state (d + 1) parts (marks_at (at + length bytes) ps), opening_moves end d k at (terminal_of kind bytes) parts (marks_at (at + length bytes) ps) word.terminal few, r.leads end);
  value = ap (λ (us : List ValueSyntax). token (token_parts kind at bytes) ∷ us) r.value;
}

closing_moves : (end d : ℕ) (parts : List Part) (ms : List Mark) → move rules end (state (d + 1) (Closing ∷ parts) ms) ≡ moved Close (state d parts ms)
closing_moves end d parts ms = ap (λ (n : ℕ). moved Close (state n parts ms)) (omega arith)

pub closing_read : {d at : ℕ} {parts : List Part} {ps : List Piece} {vs : List ValueSyntax} → Reads d parts at ps vs → Reads (d + 1) (Closing ∷ parts) at ps vs
closing_read {d} {at} {parts} {ps} r = record {
  separate = r.separate;
  outside = r.outside;
  steps = Close ∷ r.steps;
  leads = λ end. (state d parts (marks_at at ps), closing_moves end d parts (marks_at at ps), r.leads end);
  value = r.value;
}

-- ---- phrases

-- rule `k` of phrase `n` is chosen before a token of terminal `x`, and has this start and these parts, and makes this of the values of its parts
pub record IsRule (n x k : ℕ) (start : Start) (parts : List Part) (f : List ValueSyntax → List ValueSyntax) : Type 0 where
  pub chosen : (m : ℕ) (ms : List Mark) → chosen rules n (record { terminal = x; at = m } ∷ ms) ≡ Some (k, rule_parts n start parts)
  pub makes : (vs : List ValueSyntax) → act (slice_get listed_actions k) vs ≡ f vs

-- likewise for a rule that is chosen before all tokens
pub record IsOnlyRule (n k : ℕ) (parts : List Part) (f : List ValueSyntax → List ValueSyntax) : Type 0 where
  pub chosen : (ms : List Mark) → chosen rules n ms ≡ Some (k, rule_parts n Otherwise parts)
  pub makes : (vs : List ValueSyntax) → act (slice_get listed_actions k) vs ≡ f vs

acted : (k : ℕ) (f : List ValueSyntax → List ValueSyntax) (us vs ws : List ValueSyntax) → ((vs : List ValueSyntax) → act (slice_get listed_actions k) vs ≡ f vs) → us ≡ vs → f vs ≡ ws → act (slice_get listed_actions k) us ≡ ws
acted k f us vs ws action same made = action us ∙ ap f same ∙ made

apply_moves : (end d n k : ℕ) (parts rest : List Part) (ms : List Mark) → chosen rules n ms ≡ Some (k, rule_parts n Otherwise parts) → move rules end (state d (Phrase n ∷ rest) ms) ≡ moved (Apply k) (state d (parts ++ rest) ms)
apply_moves end d n k parts rest ms e = ap (predicted end d rest ms) e

pub apply_by : {d at : ℕ} {rest : List Part} {ps : List Piece} {vs us : List ValueSyntax} (n k : ℕ) (parts : List Part) (f : List ValueSyntax → List ValueSyntax) → chosen rules n (marks_at at ps) ≡ Some (k, rule_parts n Otherwise parts) → ((vs : List ValueSyntax) → act (slice_get listed_actions k) vs ≡ f vs) → f vs ≡ us → Reads d (parts ++ rest) at ps vs → Reads d (Phrase n ∷ rest) at ps us
apply_by {d} {at} {rest} {ps} {vs} {us} n k parts f choice action made r = record {
  separate = r.separate;
  outside = r.outside;
  steps = Apply k ∷ r.steps;
  leads = λ end. (state d (parts ++ rest) (marks_at at ps), apply_moves end d n k parts rest (marks_at at ps) choice, r.leads end);
  value = acted k f (values actions r.steps (parts_from at ps)) vs us action r.value made;
}

pub only_read : {d at n k : ℕ} {parts rest : List Part} {f : List ValueSyntax → List ValueSyntax} {ps : List Piece} {vs us : List ValueSyntax} → IsOnlyRule n k parts f → f vs ≡ us → Reads d (parts ++ rest) at ps vs → Reads d (Phrase n ∷ rest) at ps us
only_read {d} {at} {n} {k} {parts} {rest} {f} {ps} rule made r = apply_by n k parts f (rule.chosen (marks_at at ps)) rule.makes made r

pub apply_read : {d at n x k : ℕ} {parts rest : List Part} {f : List ValueSyntax → List ValueSyntax} {ps : List Piece} {vs us : List ValueSyntax} → IsRule n x k Otherwise parts f → Follows x at ps → f vs ≡ us → Reads d (parts ++ rest) at ps vs → Reads d (Phrase n ∷ rest) at ps us
apply_read {d} {at} {n} {x} {k} {parts} {rest} {f} {ps} rule next made r = apply_by n k parts f (ap (chosen rules n) next.are ∙ rule.chosen next.place next.others) rule.makes made r

shift_moves : (end d n k x t at : ℕ) (parts rest : List Part) (ms : List Mark) → t ≡ x → chosen rules n (record { terminal = x; at = at } ∷ ms) ≡ Some (k, rule_parts n (Take x) parts) → move rules end (state d (Phrase n ∷ rest) (record { terminal = t; at = at } ∷ ms)) ≡ moved (Shift k) (state d (parts ++ rest) ms)
shift_moves end d n k x t at parts rest ms e choice =
    ap (λ (u : ℕ). move rules end (state d (Phrase n ∷ rest) (record { terminal = u; at = at } ∷ ms))) e
    ∙ ap (predicted end d rest (record { terminal = x; at = at } ∷ ms)) choice ∙ taken (eq-eqb x x refl) where
      taken : nat_eq x x ≡ true → predicted end d rest (record { terminal = x; at = at } ∷ ms) (Some (k, rule_parts n (Take x) parts)) ≡ moved (Shift k) (state d (parts ++ rest) ms)
      taken same = rw same refl

pub shift_read : {d at n x k : ℕ} {parts rest : List Part} {f : List ValueSyntax → List ValueSyntax} {kind : Kind} {bytes : List ℕ} {ps : List Piece} {vs us : List ValueSyntax} → IsRule n x k (Take x) parts f → IsWord kind bytes x → EndsBefore kind bytes (spelled ps) → f (token (token_parts kind at bytes) ∷ vs) ≡ us → Reads d (parts ++ rest) (at + length bytes) ps vs → Reads d (Phrase n ∷ rest) at (lexeme kind bytes ∷ ps) us
shift_read {d} {at} {n} {x} {k} {parts} {rest} {f} {kind} {bytes} {ps} {vs} {us} rule word ends made r = record {
  separate = (word.token, ends, r.separate);
  outside = one_outside kind bytes x at (parts_from (at + length bytes) ps) word r.outside;
  steps = Shift k ∷ r.steps;
  leads = λ end. (state d (parts ++ rest) (marks_at (at + length bytes) ps), shift_moves end d n k x (terminal_of kind bytes) at parts rest (marks_at (at + length bytes) ps) word.terminal (rule.chosen at (marks_at (at + length bytes) ps)), r.leads end);
  value =
      acted k f (token (token_parts kind at bytes) ∷ values actions r.steps (parts_from (at + length bytes) ps)) (token (token_parts kind at bytes) ∷ vs) us rule.makes
      (ap (λ (ws : List ValueSyntax). token (token_parts kind at bytes) ∷ ws) r.value)
      made;
}

open_moves : (end d n k x t at : ℕ) (parts rest : List Part) (ms : List Mark) → t ≡ x → nat_lt d MAX_OPEN ≡ true → chosen rules n (record { terminal = x; at = at } ∷ ms) ≡ Some (k, rule_parts n (Open x) parts) → move rules end (state d (Phrase n ∷ rest) (record { terminal = t; at = at } ∷ ms)) ≡ moved (Shift k) (state (d + 1) (parts ++ rest) ms)
open_moves end d n k x t at parts rest ms e few choice =
    ap (λ (u : ℕ). move rules end (state d (Phrase n ∷ rest) (record { terminal = u; at = at } ∷ ms))) e
    ∙ ap (predicted end d rest (record { terminal = x; at = at } ∷ ms)) choice ∙ taken (eq-eqb x x refl) where
      taken : nat_eq x x ≡ true → predicted end d rest (record { terminal = x; at = at } ∷ ms) (Some (k, rule_parts n (Open x) parts)) ≡ moved (Shift k) (state (d + 1) (parts ++ rest) ms)
      taken same = rw (same, few) refl

pub open_read : {d at n x k : ℕ} {parts rest : List Part} {f : List ValueSyntax → List ValueSyntax} {kind : Kind} {bytes : List ℕ} {ps : List Piece} {vs us : List ValueSyntax} → nat_lt d MAX_OPEN ≡ true → IsRule n x k (Open x) parts f → IsWord kind bytes x → EndsBefore kind bytes (spelled ps) → f (token (token_parts kind at bytes) ∷ vs) ≡ us → Reads (d + 1) (parts ++ rest) (at + length bytes) ps vs → Reads d (Phrase n ∷ rest) at (lexeme kind bytes ∷ ps) us
open_read {d} {at} {n} {x} {k} {parts} {rest} {f} {kind} {bytes} {ps} {vs} {us} few rule word ends made r = record {
  separate = (word.token, ends, r.separate);
  outside = one_outside kind bytes x at (parts_from (at + length bytes) ps) word r.outside;
  steps = Shift k ∷ r.steps;
  leads = λ end. (state (d + 1) (parts ++ rest) (marks_at (at + length bytes) ps), open_moves end d n k x (terminal_of kind bytes) at parts rest (marks_at (at + length bytes) ps) word.terminal few (rule.chosen at (marks_at (at + length bytes) ps)), r.leads end);
  value =
      acted k f (token (token_parts kind at bytes) ∷ values actions r.steps (parts_from (at + length bytes) ps)) (token (token_parts kind at bytes) ∷ vs) us rule.makes
      (ap (λ (ws : List ValueSyntax). token (token_parts kind at bytes) ∷ ws) r.value)
      made;
}

-- the rule for a condition in parentheses, which is chosen by the token after them
group_moves : (end d n k g t at : ℕ) (parts rest : List Part) (ms : List Mark) → t ≡ OPEN_ROUND → nat_lt d MAX_OPEN ≡ true → chosen rules n (record { terminal = OPEN_ROUND; at = at } ∷ ms) ≡ Some (k, rule_parts n (Group g) parts) → move rules end (state d (Phrase n ∷ rest) (record { terminal = t; at = at } ∷ ms)) ≡ moved (Shift k) (state (d + 1) (parts ++ rest) ms)
group_moves end d n k g t at parts rest ms e few choice =
    ap (λ (u : ℕ). move rules end (state d (Phrase n ∷ rest) (record { terminal = u; at = at } ∷ ms))) e
    ∙ ap (predicted end d rest (record { terminal = OPEN_ROUND; at = at } ∷ ms)) choice ∙ taken where
      taken : predicted end d rest (record { terminal = OPEN_ROUND; at = at } ∷ ms) (Some (k, rule_parts n (Group g) parts)) ≡ moved (Shift k) (state (d + 1) (parts ++ rest) ms)
      taken = rw few refl

pub group_read : {d at n k g : ℕ} {parts rest : List Part} {f : List ValueSyntax → List ValueSyntax} {kind : Kind} {bytes : List ℕ} {ps : List Piece} {vs us : List ValueSyntax} → nat_lt d MAX_OPEN ≡ true → chosen rules n (record { terminal = OPEN_ROUND; at = at } ∷ marks_at (at + length bytes) ps) ≡ Some (k, rule_parts n (Group g) parts) → ((vs : List ValueSyntax) → act (slice_get listed_actions k) vs ≡ f vs) → IsWord kind bytes OPEN_ROUND → EndsBefore kind bytes (spelled ps) → f (token (token_parts kind at bytes) ∷ vs) ≡ us → Reads (d + 1) (parts ++ rest) (at + length bytes) ps vs → Reads d (Phrase n ∷ rest) at (lexeme kind bytes ∷ ps) us
group_read {d} {at} {n} {k} {g} {parts} {rest} {f} {kind} {bytes} {ps} {vs} {us} few choice action word ends made r = record {
  separate = (word.token, ends, r.separate);
  outside = one_outside kind bytes OPEN_ROUND at (parts_from (at + length bytes) ps) word r.outside;
  steps = Shift k ∷ r.steps;
  leads = λ end. (state (d + 1) (parts ++ rest) (marks_at (at + length bytes) ps), group_moves end d n k g (terminal_of kind bytes) at parts rest (marks_at (at + length bytes) ps) word.terminal few choice, r.leads end);
  value =
      acted k f (token (token_parts kind at bytes) ∷ values actions r.steps (parts_from (at + length bytes) ps)) (token (token_parts kind at bytes) ∷ vs) us action
      (ap (λ (ws : List ValueSyntax). token (token_parts kind at bytes) ∷ ws) r.value)
      made;
}
