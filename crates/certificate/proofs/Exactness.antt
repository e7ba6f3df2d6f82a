-- The theorems on the text of evidence.
use Rattle.std.proofs.Common.{◌≡◌, ◌≢◌, ℕ, List, ◌∷◌, ◌++◌, true, false, Some, Ok, Err, codes, refl, sym, ap, ◌∙◌}
use Rattle.std.specs.Result.{result_err}
use Rattle.std.specs.Str.{bytes_eq}
use Rattle.line_format.specs.Lines.{parts_of}
use Rattle.line_format.proofs.Splits.{split_lacking, split_at}
use Rattle.line_format.proofs.LineSteps.{differs, first_none, first_cut, scan_fault}
use Rattle.line_format.proofs.WholeTexts.{text_answer, no_fault, one_value, text_or_fault, line_scanned, truncated_first, trailing_first}
use Rattle.kat_model.specs.Strings.{GuardedString}
use Rattle.line_format.specs.NumberedLines.{fault_after}
use Rattle.certificate.specs.declared.nodes.Style.TheVariants.{Plain, UpTo, Under}
use Rattle.certificate.specs.declared.evidence.Evidence.{Evidence}
use Rattle.certificate.specs.declared.evidence.Evidence.TheVariants.{Equal, Different}
use Rattle.certificate.specs.declared.evidence.EvidenceFault.{EvidenceFault}
use Rattle.certificate.specs.declared.evidence.EvidenceFault.TheVariants.{NoMemory, Header}
use Rattle.certificate.specs.Texts.{heading, string_heading, text_of, IsEvidence}
use Rattle.certificate.specs.Forms.{entry_of, first_of, move_of}
use Rattle.certificate.specs.Faults.{Answer, answer_of, all_from, fault_names, entry_format, move_format, after_first, after_atom, string_from, after_heading, cert_from, no_entries}
use Rattle.certificate.specs.Readings.{Gives}
use Rattle.certificate.specs.Working.Readings.{Reads}
use Rattle.certificate.specs.Laws.{IsLine, text_with, TextsDiffer, IsTextOrFaulty, EachHasOneSpelling, FaultsAreFirst, next_line}
use Rattle.certificate.proofs.Spellings.{entry_back, entry_given}
use Rattle.certificate.proofs.StringSpellings.{first_back, first_given, move_back, move_given}
use Rattle.certificate.proofs.MoveForms.{formless, wide_move_fault}
use Rattle.certificate.proofs.EvidenceTexts.{text_laws}

pub texts_differ_lem : TextsDiffer
texts_differ_lem = one_value text_laws

pub is_text_or_faulty_lem : IsTextOrFaulty
is_text_or_faulty_lem = text_or_fault text_laws

pub lines_have_one_spelling_lem : EachHasOneSpelling
lines_have_one_spelling_lem line =
    record {
      entry = λ e narrow. (entry_given line e narrow, (λ is. ap entry_of is ∙ entry_back e narrow));
      first = λ atom. (first_given line atom, (λ is. ap first_of is ∙ first_back atom));
      move = λ m small. (move_given line m small, (λ is. ap move_of is ∙ move_back m small));
    }

pub only_from : (bytes : List ℕ) (r : Answer) → Reads (answer_of bytes) r → (e : Evidence) → IsEvidence e → bytes ≡ text_of e → Gives e r
only_from bytes (Ok f) a e is text = let one : Ok f ≡ Ok e = sym a ∙ text_answer text_laws bytes e is text in cc
only_from bytes (Err NoMemory) a e is text = tt
only_from bytes (Err fault) a e is text = no_fault text_laws bytes fault e is text a

-- ---- the first fault

-- the answer for the text of a certificate of each style, of a string, and of neither, by the comparisons of line 1
module _ (line : List ℕ) (parts : List (List ℕ)) where
  pub is_plain : bytes_eq line (heading Plain) ≡ true → after_heading line parts ≡ cert_from (no_entries Plain) 2 parts
  is_plain a = rw a refl

  pub is_up_to : bytes_eq line (heading Plain) ≡ false → bytes_eq line (heading UpTo) ≡ true → after_heading line parts ≡ cert_from (no_entries UpTo) 2 parts
  is_up_to a b = rw (a, b) refl

  pub is_under : bytes_eq line (heading Plain) ≡ false → bytes_eq line (heading UpTo) ≡ false → bytes_eq line (heading Under) ≡ true → after_heading line parts ≡ cert_from (no_entries Under) 2 parts
  is_under a b c = rw (a, b, c) refl

  pub is_string : bytes_eq line (heading Plain) ≡ false → bytes_eq line (heading UpTo) ≡ false → bytes_eq line (heading Under) ≡ false → bytes_eq line string_heading ≡ true → after_heading line parts ≡ string_from parts
  is_string a b c d = rw (a, b, c, d) refl

  pub no_heading : bytes_eq line (heading Plain) ≡ false → bytes_eq line (heading UpTo) ≡ false → bytes_eq line (heading Under) ≡ false → bytes_eq line string_heading ≡ false → after_heading line parts ≡ Err Header
  no_heading a b c d = rw (a, b, c, d) refl

-- the answer for a string after its first line
string_answer : (rest : List ℕ) → all_from (parts_of (string_heading ++ 10 ∷ rest)) ≡ string_from (parts_of rest)
string_answer rest = first_cut fault_names after_heading (string_heading ++ 10 ∷ rest) string_heading rest (split_at 10 string_heading rest refl)

pub faults_are_first_lem : FaultsAreFirst
faults_are_first_lem =
    record {
      header = λ line more whole plain up_to under string. ap result_err (first_cut fault_names after_heading (line ++ 10 ∷ more) line more (split_at 10 line more whole) ∙ no_heading line (parts_of more) (differs line _ plain) (differs line _ up_to) (differs line _ under) (differs line _ string));
      first = λ line more whole none.
          ap result_err (string_answer (line ++ 10 ∷ more) ∙ first_cut fault_names after_first (line ++ 10 ∷ more) line more (split_at 10 line more whole) ∙ ap (λ o. after_atom o (parts_of more)) none);
      entry = λ c line more fault is whole apart wrong.
          ap result_err (line_scanned text_laws (Equal c) line more is whole ∙ scan_fault entry_format c (next_line (Equal c)) (line ++ 10 ∷ more) line more (split_at 10 line more whole) (differs line _ apart) fault wrong);
      move = λ x line more is whole apart none. ap result_err (move_fault x line more is whole apart _ (formless x (next_line (Different x)) line none));
      wide = λ x line more m is whole apart move wide. ap result_err (move_fault x line more is whole apart _ (wide_move_fault x (next_line (Different x)) line m move wide));
      no_line = λ rest whole. ap result_err (first_none fault_names after_heading rest (split_lacking 10 rest whole));
      one_line = λ rest whole. ap result_err (string_answer rest ∙ first_none fault_names after_first rest (split_lacking 10 rest whole));
      truncated = λ e rest is whole. ap result_err (truncated_first text_laws e rest is whole);
      trailing = λ e b more is. ap result_err (trailing_first text_laws e b more is);
    }
  where
    move_fault : (x : GuardedString) (line more : List ℕ) → IsEvidence (Different x) → IsLine line → line ≢ codes "end" → (fault : EvidenceFault) → fault_after move_format x (next_line (Different x)) (move_of line) ≡ Some fault → answer_of (text_with (Different x) line more) ≡ Err fault
    move_fault x line more is whole apart fault wrong =
        line_scanned text_laws (Different x) line more is whole ∙ scan_fault move_format x (next_line (Different x)) (line ++ 10 ∷ more) line more (split_at 10 line more whole) (differs line _ apart) fault wrong
