-- Bytes either denote exactly one file or have exactly one first fault.
use Rattle.std.proofs.Common.{◌≡◌, List, ℕ, Result, Ok, Err, IfErr, refl}
use Rattle.text_parser.specs.declared.fault.TextFault.{TextFault}
use Rattle.text_parser.specs.declared.fault.TextFault.TheVariants.{NoMemory}
use Rattle.problem_file.specs.Laws.{HaveOneAnswer}
use Rattle.problem_file.proofs.TextAnswers.{Represents, no_fault, one_answer}
use Rattle.gkat_front.specs.declared.file.GkatFile.{GkatFile}
use Rattle.gkat_front.specs.Files.{GkatFileParts}
use Rattle.gkat_front.specs.Making.{tested}
use Rattle.gkat_front.specs.Reads.{Reads, FirstFault, Answers}
use Rattle.gkat_front.proofs.ReadTexts.{read_given, tests_pass}
use Rattle.gkat_front.proofs.NamedTexts.{tested_named}

file_given : (bytes : List ℕ) (f : GkatFileParts) → Reads bytes f → Represents tested bytes f
file_given bytes f x = record { parts_of_tokens = x.parts_of_tokens; lexes = x.lexes; tests_pass = tests_pass bytes f x }

pub have_one_answer : HaveOneAnswer Reads FirstFault
have_one_answer = one_answer tested Reads (λ f. f) (record {
  given = λ bytes f t. read_given bytes t.parts_of_tokens f t.lexes t.tests_pass;
  pass = λ bytes f x. (f, file_given bytes f x, refl);
  named = tested_named;
})

-- bytes that denote a file have no first fault
pub only_memory : (bytes : List ℕ) (f : GkatFileParts) (r : Result GkatFile TextFault) → Reads bytes f → Answers bytes r → IfErr r (λ e. e ≡ NoMemory)
only_memory bytes f (Ok g) denotes h = tt
only_memory bytes f (Err e) denotes h = no_fault tested bytes f e (file_given bytes f denotes) h
