-- The theorems on the text of notes.
use Rattle.std.proofs.Common.{◌≡◌, ℕ, List, ◌∷◌, ◌++◌, true, false, Ok, Err, refl, sym, ap, ◌∙◌}
use Rattle.std.specs.Result.{result_err}
use Rattle.std.specs.Str.{bytes_eq}
use Rattle.line_format.specs.Lines.{parts_of}
use Rattle.line_format.proofs.Splits.{split_lacking, split_at}
use Rattle.line_format.proofs.LineSteps.{differs, first_none, first_cut, scan_fault}
use Rattle.line_format.proofs.WholeTexts.{text_answer, no_fault, one_value, text_or_fault, line_scanned, truncated_first, trailing_first}
use Rattle.outline_rules.specs.declared.fault.NotesFault.TheVariants.{NoMemory, Header}
use Rattle.outline_rules.specs.NoteLists.{NotesParts}
use Rattle.outline_rules.specs.Texts.{heading, text_of, AreNarrowNotes}
use Rattle.outline_rules.specs.Forms.{read_line}
use Rattle.outline_rules.specs.Faults.{Answer, answer_of, fault_names, note_format, notes_from, no_lines, after_heading}
use Rattle.outline_rules.specs.Readings.{Gives}
use Rattle.outline_rules.specs.Working.Readings.{Reads}
use Rattle.outline_rules.specs.NoteLaws.{TextsDiffer, IsTextOrFaulty, EachHasOneSpelling, FaultsAreFirst, next_line}
use Rattle.outline_rules.proofs.Spellings.{line_read, line_given}
use Rattle.outline_rules.proofs.LineFormats.{text_laws}

pub texts_differ_lem : TextsDiffer
texts_differ_lem = one_value text_laws

pub is_text_or_faulty_lem : IsTextOrFaulty
is_text_or_faulty_lem = text_or_fault text_laws

pub lines_have_one_spelling_lem : EachHasOneSpelling
lines_have_one_spelling_lem line l narrow = (line_given line l narrow, (λ is. ap read_line is ∙ line_read l narrow))

pub only_from : (bytes : List ℕ) (r : Answer) → Reads (answer_of bytes) r → (ns : NotesParts) → AreNarrowNotes ns → bytes ≡ text_of ns → Gives ns r
only_from bytes (Ok ms) a ns is text = let one : Ok ms ≡ Ok ns = sym a ∙ text_answer text_laws bytes ns is text in cc
only_from bytes (Err NoMemory) a ns is text = tt
only_from bytes (Err fault) a ns is text = no_fault text_laws bytes fault ns is text a

pub is_heading : (line : List ℕ) (parts : List (List ℕ)) → bytes_eq line heading ≡ true → after_heading line parts ≡ notes_from no_lines 2 parts
is_heading line parts e = rw e refl

pub no_heading : (line : List ℕ) (parts : List (List ℕ)) → bytes_eq line heading ≡ false → after_heading line parts ≡ Err Header
no_heading line parts e = rw e refl

pub faults_are_first_lem : FaultsAreFirst
faults_are_first_lem =
    record {
      header = λ line more whole apart. ap result_err (first_cut fault_names after_heading (line ++ 10 ∷ more) line more (split_at 10 line more whole) ∙ no_heading line (parts_of more) (differs line heading apart));
      line = λ ns line more fault is whole apart wrong.
          ap result_err (line_scanned text_laws ns line more is whole ∙ scan_fault note_format ns (next_line ns) (line ++ 10 ∷ more) line more (split_at 10 line more whole) (differs line _ apart) fault wrong);
      no_line = λ rest whole. ap result_err (first_none fault_names after_heading rest (split_lacking 10 rest whole));
      truncated = λ ns rest is whole. ap result_err (truncated_first text_laws ns rest is whole);
      trailing = λ ns b more is. ap result_err (trailing_first text_laws ns b more is);
    }
