-- The text of evidence keeps the laws of texts.
use Rattle.std.proofs.Common.{◌≡◌, ℕ, ◌+◌, List, [], ◌∷◌, ◌++◌, map, length, Bool, true, false, cond, Option, Some, None, Ok, Err, refl, sym, ap, ◌∙◌, subst, codes, arith}
use mathlib.Core.Path.{ap₂}
use Rattle.std.specs.Str.{bytes_eq}
use Rattle.std.proofs.lemmas.List.{length-map}
use Rattle.kat_model.specs.Steps.{Atom}
use Rattle.kat_model.specs.Strings.{GuardedString}
use Rattle.line_format.specs.Lines.{line_of}
use Rattle.line_format.specs.NumberedLines.{ended, spelling}
use Rattle.line_format.proofs.Splits.{LacksByte}
use Rattle.line_format.proofs.TextParts.{LackFeeds, with_last}
use Rattle.line_format.proofs.LineSteps.{named, complete}
use Rattle.line_format.proofs.LinesScanned.{lines_scanned, lines_lack}
use Rattle.line_format.proofs.LinesGiven.{body_given}
use Rattle.line_format.proofs.WholeTexts.{IsTextFormat}
use Rattle.certificate.specs.declared.nodes.Style.{Style}
use Rattle.certificate.specs.declared.nodes.Style.TheVariants.{Plain, UpTo, Under}
use Rattle.certificate.specs.declared.evidence.Evidence.{Evidence}
use Rattle.certificate.specs.declared.evidence.Evidence.TheVariants.{Equal, Different}
use Rattle.certificate.specs.declared.evidence.EvidenceFault.TheVariants.{Header, Truncated}
use Rattle.certificate.specs.Texts.{atom_words, heading, string_heading, entries_of, lines_before_end, lines_of, IsEvidence}
use Rattle.certificate.specs.Forms.{first_of}
use Rattle.certificate.specs.Faults.{Answer, fault_names, entry_format, move_format, cert_from, moves_from, after_atom, string_from, no_entries, all_from}
use Rattle.certificate.proofs.StringSpellings.{first_back, first_given, first_lacks}
use Rattle.certificate.proofs.EvidenceFormats.{entry_laws, IsCertIn, certs_grow, move_laws, moves_narrow, narrow_moves, strings_grow}

-- the answer for the parts from line n on, after the lines of evidence before the last one
abbrev pub next_from : Evidence → ℕ → List (List ℕ) → Answer
next_from (Equal c) n parts = cert_from c n parts
next_from (Different x) n parts = moves_from x n parts

-- ---- what is spelled is read

heading_lacks : (style : Style) → LacksByte 10 (heading style)
heading_lacks Plain = refl
heading_lacks UpTo = refl
heading_lacks Under = refl

headed : (style : Style) (xs : List (List ℕ)) (part : List ℕ) (parts : List (List ℕ)) → all_from (heading style ∷ (xs ++ part ∷ parts)) ≡ cert_from (no_entries style) 2 (xs ++ part ∷ parts)
headed Plain xs part parts = complete fault_names xs part parts _
headed UpTo xs part parts = complete fault_names xs part parts _
headed Under xs part parts = complete fault_names xs part parts _

before_lack : (e : Evidence) → IsEvidence e → LackFeeds (lines_before_end e)
before_lack (Equal c) is = (heading_lacks c.style, lines_lack entry_format entry_laws (entries_of c) is.1)
before_lack (Different x) is = (refl, (first_lacks x.first, lines_lack move_format move_laws x.rest (moves_narrow x is)))

before_scanned : (e : Evidence) (i : ℕ) (part : List ℕ) (parts : List (List ℕ)) → IsEvidence e → i ≡ length (lines_before_end e) + 1 → all_from (lines_before_end e ++ part ∷ parts) ≡ next_from e i (part ∷ parts)
before_scanned (Equal c) i part parts is place =
    headed c.style (map (spelling entry_format) (entries_of c)) part parts
    ∙ lines_scanned entry_format entry_laws (no_entries c.style) (IsCertIn c.style) (certs_grow c.style) c (is.0, refl) is.1 2 i part parts (omega (arith, place, length-map (entries_of c) (spelling entry_format)))
before_scanned (Different x) i part parts is place =
    complete fault_names (map (spelling move_format) x.rest) part parts _
    ∙ rw (first_back x.first)
    (lines_scanned move_format move_laws (record { first = x.first; rest = [] }) (λ y. y.first ≡ x.first) (strings_grow x.first) x refl (moves_narrow x is) 3 i part parts (omega (arith, place, length-map x.rest (spelling move_format))))

-- ---- what is read is spelled

pub record Reported (parts : List (List ℕ)) (e : Evidence) : Type 0 where
  pub evidence : IsEvidence e
  pub lines : parts ≡ with_last (lines_of e)

headed_given : (style : Style) (line : List ℕ) (rest : List (List ℕ)) (e : Evidence) → line ≡ heading style → cert_from (no_entries style) 2 rest ≡ Ok e → Reported (line ∷ rest) e
headed_given style line rest e is h =
    let given = body_given entry_format entry_laws (no_entries style) (IsCertIn style) (certs_grow style) rest 2 e h in
    let first : line ≡ heading given.whole.style = is ∙ ap heading (sym given.keeps.1) in
    subst (Reported (line ∷ rest)) given.is (record { evidence = (given.keeps.0, given.narrow); lines = ap₂ (λ l ls. l ∷ ls) first given.lines })

string_given : (line : List ℕ) (rest : List (List ℕ)) (e : Evidence) → line ≡ string_heading → string_from rest ≡ Ok e → Reported (line ∷ rest) e
string_given line [] e is h = cc
string_given line (second ∷ []) e is h = cc
string_given line (second ∷ part ∷ parts) e is h = by_first (first_of second) refl h
  where
    by_first : (o : Option Atom) → first_of second ≡ o → after_atom o (part ∷ parts) ≡ Ok e → Reported (line ∷ second ∷ part ∷ parts) e
    by_first None read k = cc
    by_first (Some atom) read k =
        let given = body_given move_format move_laws (record { first = atom; rest = [] }) (λ x. x.first ≡ atom) (strings_grow atom) (part ∷ parts) 3 e k in
        let x : GuardedString = given.whole in
        let spelled_first : second ≡ line_of (atom_words x.first) = first_given second atom read ∙ ap (λ a. line_of (atom_words a)) (sym given.keeps) in
        subst (Reported (line ∷ second ∷ part ∷ parts)) given.is (record { evidence = narrow_moves x given.narrow; lines = ap₂ (λ l ls. l ∷ ls) is (ap₂ (λ l ls. l ∷ ls) spelled_first given.lines) })

all_given : (parts : List (List ℕ)) (e : Evidence) → all_from parts ≡ Ok e → Reported parts e
all_given [] e h = cc
all_given (line ∷ []) e h = cc
all_given (line ∷ part ∷ parts) e h = by_heading (bytes_eq line (heading Plain)) (bytes_eq line (heading UpTo)) (bytes_eq line (heading Under)) (bytes_eq line string_heading) refl refl refl refl h
  where
    by_heading : (a b c d : Bool) → bytes_eq line (heading Plain) ≡ a → bytes_eq line (heading UpTo) ≡ b → bytes_eq line (heading Under) ≡ c → bytes_eq line string_heading ≡ d
        → cond a (cert_from (no_entries Plain) 2 (part ∷ parts)) (cond b (cert_from (no_entries UpTo) 2 (part ∷ parts)) (cond c (cert_from (no_entries Under) 2 (part ∷ parts)) (cond d (string_from (part ∷ parts)) (Err Header)))) ≡ Ok e → Reported (line ∷ part ∷ parts) e
    by_heading true b c d is f g i k = headed_given Plain line (part ∷ parts) e (named line (heading Plain) is) k
    by_heading false true c d f is g i k = headed_given UpTo line (part ∷ parts) e (named line (heading UpTo) is) k
    by_heading false false true d f g is i k = headed_given Under line (part ∷ parts) e (named line (heading Under) is) k
    by_heading false false false true f g i is k = string_given line (part ∷ parts) e (named line string_heading is) k
    by_heading false false false false f g i j k = cc

-- ---- the laws

short : (e : Evidence) (i : ℕ) (rest : List ℕ) → next_from e i (rest ∷ []) ≡ Err Truncated
short (Equal c) i rest = refl
short (Different x) i rest = refl

ended_from : (e : Evidence) (i : ℕ) (part : List ℕ) (parts : List (List ℕ)) → next_from e i (codes "end" ∷ part ∷ parts) ≡ ended fault_names e (i + 1) (part ∷ parts)
ended_from (Equal c) i part parts = refl
ended_from (Different x) i part parts = refl

pub text_laws : IsTextFormat fault_names all_from lines_before_end IsEvidence next_from
text_laws = record { lack = before_lack; scanned = before_scanned; short = short; ends = ended_from; given = λ parts e h. let given = all_given parts e h in (given.evidence, given.lines) }
