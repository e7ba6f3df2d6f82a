-- Bytes are the text of exactly one flow file or have exactly one first fault.
use Rattle.std.proofs.Common.{◌≡◌, ◌⊎◌, inl, inr, ⊎_elim, ℕ, List, length, Result, Ok, Err, IfErr, refl, sym, ap, subst, ◌∙◌}
use Rattle.text_parser.specs.declared.fault.TextFault.{TextFault}
use Rattle.text_parser.specs.declared.fault.TextFault.TheVariants.{NoMemory, BadToken}
use Rattle.text_parser.specs.TokenParts.{TokenParts}
use Rattle.text_parser.specs.Lex.{Lexes, IsFault}
use Rattle.text_parser.proofs.Readings.{one_lexing}
use Rattle.text_parser.specs.Parsed.{Makes}
use Rattle.text_parser.specs.Lexemes.{Lexeme}
use Rattle.flow_syntax.specs.declared.rule.Step.{Step}
use Rattle.flow_syntax.specs.Derivations.{Derives, IsFirstFault, IsReaderFault}
use Rattle.flow_syntax.specs.Values.{values}
use Rattle.flow_syntax.proofs.Leading as leading
use Rattle.flow_syntax.proofs.Ending.{some_end}
use Rattle.problem_file.specs.FirstFaults as base
use Rattle.problem_file.specs.Laws.{HaveOneAnswer}
use Rattle.problem_file.proofs.TextAnswers.{Represents, one_answer}
use Rattle.flow_syntax.specs.declared.phrase.TheConstants.{FILE}
use Rattle.flow_text.specs.declared.reading.FlowFile.{FlowFile}
use Rattle.flow_syntax.specs.Marks.{marks_of}
use Rattle.flow_syntax.specs.Syntax.{ItemSyntax}
use Rattle.flow_syntax.specs.Actions.{first, items_in}
use Rattle.flow_syntax.specs.Productions.{rules, weights, actions}
use Rattle.flow_syntax.specs.Spelling.{AreSpelled}
use Rattle.flow_text.specs.Checking.{FlowFileParts, file_of}
use Rattle.flow_text.specs.FileViews.{file_parts}
use Rattle.flow_text.specs.Texts.{Spells, HasSyntaxFault, IsFlowText, HasItemFault, FirstFault, no_text, bad_token, wrong_syntax, wrong_item, Answers}
use Rattle.text_parser.proofs.NamedFaults.{IsNamed}
use Rattle.flow_syntax.proofs.GrammarExamples.{rules_light}
use Rattle.flow_syntax.proofs.NamedSyntax.{syntax_named}
use Rattle.flow_text.proofs.NamedItems.{file_named}

-- ---- bytes have tokens, or a first fault before their syntax is checked

pub passing : List Lexeme → Result (Unit {0}) TextFault
passing ts = Ok tt

abbrev pub HaveTokens : List ℕ → Unit {0} → Type 0
HaveTokens bytes u = Represents passing bytes u

pub with_tokens : (bytes : List ℕ) (ms : List TokenParts) → Lexes bytes ms → HaveTokens bytes tt
unfolding passing
with_tokens bytes ms lexes = record { parts_of_tokens = ms; lexes = lexes; tests_pass = refl }

tokens_or_fault : HaveOneAnswer HaveTokens (base.IsFirstFault passing)
unfolding passing
tokens_or_fault = one_answer passing HaveTokens (λ u. u) (record { given = λ bytes u t. t; pass = λ bytes u s. (u, s, refl); named = λ ts. tt })

-- ---- tokens spell one list of items

spelled_once : (ms : List TokenParts) (end : ℕ) (is js : List ItemSyntax) → AreSpelled ms end is → AreSpelled ms end js → is ≡ js
spelled_once ms end is js a b =
    let same : a.steps ≡ b.steps = leading.one_derivation rules FILE (marks_of ms) end a.steps b.steps a.derived b.derived in
    sym a.value ∙ ap (λ steps. items_in (first (values actions steps ms))) same ∙ b.value

pub spells_once : (text : List ℕ) (is js : List ItemSyntax) → Spells text is → Spells text js → is ≡ js
spells_once text is js a b =
    let same : a.tokens ≡ b.tokens = one_lexing text a.tokens b.tokens a.lexed b.lexed in
    spelled_once b.tokens (length text) is js (subst (λ ms. AreSpelled ms (length text) is) same a.spelled) b.spelled

spells_or_fails : (text : List ℕ) (is : List ItemSyntax) (e : TextFault) → Spells text is → HasSyntaxFault text e → ⊥
spells_or_fails text is e a b =
    let same : b.tokens ≡ a.tokens = one_lexing text b.tokens a.tokens b.lexed a.lexed in
    leading.not_both rules FILE (marks_of a.tokens) (length text) (a.spelled).steps e (a.spelled).derived (subst (λ ms. IsFirstFault rules FILE (marks_of ms) (length text) e) same b.refused)

fails_once : (text : List ℕ) (d e : TextFault) → HasSyntaxFault text d → HasSyntaxFault text e → d ≡ e
fails_once text d e a b =
    let same : a.tokens ≡ b.tokens = one_lexing text a.tokens b.tokens a.lexed b.lexed in
    leading.one_fault rules FILE (marks_of b.tokens) (length text) d e (subst (λ ms. IsFirstFault rules FILE (marks_of ms) (length text) d) same a.refused) b.refused

-- ---- values and faults of items

ok_file : FlowFileParts → Result FlowFileParts TextFault
ok_file f = Ok f

same_file : (f g : FlowFileParts) → Ok f ≡ ok_file g → f ≡ g
unfolding ok_file
same_file f g e = cc

same_fault : (d e : TextFault) (m : Result FlowFileParts TextFault) → m ≡ Err d → m ≡ Err e → d ≡ e
same_fault d e m h k = cc

no_file : (f : FlowFileParts) (e : TextFault) (m : Result FlowFileParts TextFault) → m ≡ Ok f → m ≡ Err e → ⊥
no_file f e m h k = absurd cc

-- ---- never both

text_has_tokens : (bytes : List ℕ) (is : List ItemSyntax) → Spells bytes is → HaveTokens bytes tt
text_has_tokens bytes is s = with_tokens bytes s.tokens s.lexed

fault_has_tokens : (bytes : List ℕ) (e : TextFault) → HasSyntaxFault bytes e → HaveTokens bytes tt
fault_has_tokens bytes e s = with_tokens bytes s.tokens s.lexed

no_early_fault : (bytes : List ℕ) (e : TextFault) → HaveTokens bytes tt → base.IsFirstFault passing bytes e → ⊥
no_early_fault bytes e t f = tokens_or_fault.either bytes tt e t f

pub never_both : (bytes : List ℕ) (f : FlowFileParts) (e : TextFault) → IsFlowText bytes f → FirstFault bytes e → ⊥
never_both bytes f e t (no_text early) = no_early_fault bytes e (text_has_tokens bytes t.spelled t.spells) (base.no_text early)
never_both bytes f e t (bad_token at given bad) = no_early_fault bytes e (text_has_tokens bytes t.spelled t.spells) (base.bad_token at given bad)
never_both bytes f e t (wrong_syntax refused) = spells_or_fails bytes t.spelled e t.spells refused
never_both bytes f e t (wrong_item item) =
    let same : t.spelled ≡ item.spelled = spells_once bytes t.spelled item.spelled t.spells item.spells in
    no_file f e (file_of item.spelled) (sym (ap file_of same) ∙ t.file) item.refused

pub one_file : (bytes : List ℕ) (f g : FlowFileParts) → IsFlowText bytes f → IsFlowText bytes g → f ≡ g
unfolding ok_file
one_file bytes f g s t =
    let same : s.spelled ≡ t.spelled = spells_once bytes s.spelled t.spelled s.spells t.spells in
    same_file f g (sym s.file ∙ ap file_of same ∙ t.file)

-- ---- at most one first fault

early_fault : (bytes : List ℕ) (d e : TextFault) → base.IsFirstFault passing bytes d → FirstFault bytes e → d ≡ e
early_fault bytes d e a (no_text early) = tokens_or_fault.faults bytes d e a (base.no_text early)
early_fault bytes d e a (bad_token at given bad) = tokens_or_fault.faults bytes d e a (base.bad_token at given bad)
early_fault bytes d e a (wrong_syntax refused) = absurd (no_early_fault bytes d (fault_has_tokens bytes e refused) a)
early_fault bytes d e a (wrong_item item) = absurd (no_early_fault bytes d (text_has_tokens bytes item.spelled item.spells) a)

syntax_fault : (bytes : List ℕ) (d e : TextFault) → HasSyntaxFault bytes d → FirstFault bytes e → d ≡ e
syntax_fault bytes d e a (no_text early) = sym (early_fault bytes e d (base.no_text early) (wrong_syntax a))
syntax_fault bytes d e a (bad_token at given bad) = sym (early_fault bytes e d (base.bad_token at given bad) (wrong_syntax a))
syntax_fault bytes d e a (wrong_syntax refused) = fails_once bytes d e a refused
syntax_fault bytes d e a (wrong_item item) = absurd (spells_or_fails bytes item.spelled d item.spells a)

item_fault : (bytes : List ℕ) (d e : TextFault) → HasItemFault bytes d → FirstFault bytes e → d ≡ e
item_fault bytes d e a (no_text early) = sym (early_fault bytes e d (base.no_text early) (wrong_item a))
item_fault bytes d e a (bad_token at given bad) = sym (early_fault bytes e d (base.bad_token at given bad) (wrong_item a))
item_fault bytes d e a (wrong_syntax refused) = absurd (spells_or_fails bytes a.spelled e a.spells refused)
item_fault bytes d e a (wrong_item item) =
    let same : a.spelled ≡ item.spelled = spells_once bytes a.spelled item.spelled a.spells item.spells in
    same_fault d e (file_of item.spelled) (sym (ap file_of same) ∙ a.refused) item.refused

pub one_fault : (bytes : List ℕ) (d e : TextFault) → FirstFault bytes d → FirstFault bytes e → d ≡ e
one_fault bytes d e (no_text early) y = early_fault bytes d e (base.no_text early) y
one_fault bytes d e (bad_token at given bad) y = early_fault bytes d e (base.bad_token at given bad) y
one_fault bytes d e (wrong_syntax refused) y = syntax_fault bytes d e refused y
one_fault bytes d e (wrong_item item) y = item_fault bytes d e item y

-- ---- bytes have a file or a first fault

abbrev FileOrFault : List ℕ → Type 0
FileOrFault bytes = ((f : FlowFileParts) × IsFlowText bytes f) ⊎ ((e : TextFault) × FirstFault bytes e)

items_end : (bytes : List ℕ) (is : List ItemSyntax) → Spells bytes is → (m : Result FlowFileParts TextFault) → file_of is ≡ m → FileOrFault bytes
items_end bytes is s (Ok f) e = inl (f, record { spelled = is; spells = s; file = e })
items_end bytes is s (Err fault) e = inr (fault, wrong_item (record { spelled = is; spells = s; refused = e }))

spelled_by : (bytes : List ℕ) (ms : List TokenParts) (steps : List Step) → Lexes bytes ms → Derives rules FILE (marks_of ms) (length bytes) steps → Spells bytes (items_in (first (values actions steps ms)))
spelled_by bytes ms steps lexes d = record { tokens = ms; lexed = lexes; spelled = record { steps = steps; derived = d; value = refl } }

tokens_end : (bytes : List ℕ) (ms : List TokenParts) → Lexes bytes ms → FileOrFault bytes
tokens_end bytes ms lexes =
    ⊎_elim
    (λ (x : (steps : List Step) × Derives rules FILE (marks_of ms) (length bytes) steps). items_end bytes (items_in (first (values actions x.0 ms))) (spelled_by bytes ms x.0 lexes x.1) (file_of (items_in (first (values actions x.0 ms)))) refl)
    (λ (x : (e : TextFault) × IsFirstFault rules FILE (marks_of ms) (length bytes) e). inr (x.0, wrong_syntax (record { tokens = ms; lexed = lexes; refused = x.1 })))
    (some_end weights rules FILE (marks_of ms) (length bytes) rules_light)

early_end : (bytes : List ℕ) (e : TextFault) → base.IsFirstFault passing bytes e → FileOrFault bytes
unfolding passing
early_end bytes e (base.no_text early) = inr (e, no_text early)
early_end bytes e (base.bad_token at given bad) = inr (e, bad_token at given bad)
early_end bytes e (base.refused r) = absurd (no_refusal (length bytes) e r.tests_fail)
  where
    no_refusal : (len : ℕ) (e : TextFault) → base.placing {X = Unit {0}} len (Ok tt) ≡ Err e → ⊥
    no_refusal len e h = absurd cc

pub file_or_fault : (bytes : List ℕ) → FileOrFault bytes
file_or_fault bytes =
    ⊎_elim
    (λ (x : (u : Unit {0}) × HaveTokens bytes u). tokens_end bytes (x.1).parts_of_tokens (x.1).lexes)
    (λ (x : (e : TextFault) × base.IsFirstFault passing bytes e). early_end bytes x.0 x.1)
    (tokens_or_fault.some bytes)

-- ---- the first fault is never `NoMemory`

pub fault_named : (bytes : List ℕ) → FirstFault bytes NoMemory → ⊥
fault_named bytes (no_text early) = tokens_or_fault.named bytes (base.no_text early)
fault_named bytes (bad_token at given bad) = tokens_or_fault.named bytes (base.bad_token at given bad)
fault_named bytes (wrong_syntax refused) = syntax_named rules FILE (marks_of refused.tokens) (length bytes) refused.refused
fault_named bytes (wrong_item item) = subst IsNamed item.refused (file_named item.spelled)

pub have_one_answer : HaveOneAnswer IsFlowText FirstFault
have_one_answer = record { some = file_or_fault; either = never_both; values = one_file; faults = one_fault; named = fault_named }

-- ---- the answers of the program

pub bad_given : (bytes : List ℕ) (e : TextFault) → IsFault bytes e → (e ≡ NoMemory) ⊎ FirstFault bytes e
bad_given bytes NoMemory h = inl refl
bad_given bytes (BadToken at) h = inr (bad_token at refl h)
bad_given bytes e h = absurd h

pub syntax_given : (bytes : List ℕ) (ms : List TokenParts) (e : TextFault) → Lexes bytes ms → IsReaderFault rules FILE (marks_of ms) (length bytes) e → (e ≡ NoMemory) ⊎ FirstFault bytes e
syntax_given bytes ms NoMemory lexes h = inl refl
syntax_given bytes ms e lexes h = inr (wrong_syntax (record { tokens = ms; lexed = lexes; refused = h }))

pub file_given : (bytes : List ℕ) (ms : List TokenParts) (is : List ItemSyntax) (r : Result FlowFile TextFault) → Lexes bytes ms → AreSpelled ms (length bytes) is → Makes (Unit {0}) file_parts r (file_of is) → Answers bytes r
file_given bytes ms is (Ok f) lexes s h = record { spelled = is; spells = record { tokens = ms; lexed = lexes; spelled = s }; file = h }
file_given bytes ms is (Err NoMemory) lexes s h = inl refl
file_given bytes ms is (Err e) lexes s h = inr (wrong_item (record { spelled = is; spells = record { tokens = ms; lexed = lexes; spelled = s }; refused = h }))

-- the text of a file has no first fault
pub only_memory : (bytes : List ℕ) (f : FlowFileParts) (r : Result FlowFile TextFault) → IsFlowText bytes f → Answers bytes r → IfErr r (λ e. e ≡ NoMemory)
only_memory bytes f (Ok g) t h = tt
only_memory bytes f (Err e) t h = ⊎_elim (λ none. none) (λ first. absurd (never_both bytes f e t first)) h
