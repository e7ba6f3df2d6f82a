-- Worked examples of texts of programs, written by hand, and their readings.
use Rattle.std.proofs.Common.{◌≡◌, ◌≤◌, ◌<◌, ◌==◌, if◌then◌else◌, List, [], ℕ, zero, suc, length, refl, sym, subst, arith}
use Rattle.std.specs.Prelude.{codes}
use Rattle.kat_model.specs.declared.limits.TheConstants.{MAX_TEXT_BYTES}
use Rattle.kat_model.specs.declared.expression.Width.TheVariants.{W8, W64}
use Rattle.kat_model.specs.declared.expression.Rel.TheVariants.{Lt, Eq, Ne}
use Rattle.kat_model.specs.Expressions.{CondTree, number, variable, plus, always, compared}
use Rattle.text_parser.proofs.PrintedWords.{word_is_name}
use Rattle.text_parser.specs.declared.meaning.Meaning.{Meaning}
use Rattle.text_parser.specs.declared.meaning.Meaning.TheVariants.{Var}
use Rattle.text_parser.specs.ScopeParts.{IsIdentifier}
use Rattle.text_print.proofs.WordTerminals.{zero_written, one_written}
use Rattle.while_lang.specs.Programs.{ProgTree, empty, skip_then, assign_then, loop_then}
use Rattle.while_lang.specs.Files.{GoalTree, prog_side, equal, triple}
use Rattle.problem_file.specs.ProgramTexts.{one_program_text, programs_text, triple_text, IsOnePrintable, ArePrintable, IsTriplePrintable}
use Rattle.problem_file.specs.TextLaws.{PosesPrograms, DenotesProgram}
use Rattle.problem_file.proofs.ProgramReadings.{program_reads_back, programs_read_back, triples_read_back}

-- ---- two programs

abbrev skips : ProgTree
skips = skip_then empty

no_variables : programs_text W64 0 empty skips ≡ codes "width 64;\nprog P { }\nprog Q { skip; }\ngoal equal P, Q;\n"
no_variables = refl

abbrev adds : ProgTree
adds = assign_then 1 (plus (variable 0) (number 1)) empty

abbrev two_text : List ℕ
two_text = codes "width 8;\nvar x0, x1;\nprog P { x1 := (x0 + 1); }\nprog Q { skip; }\ngoal equal P, Q;\n"

two_spelled : programs_text W8 2 adds skips ≡ two_text
two_spelled = rw (zero_written, one_written) refl

abbrev two_goal : GoalTree
two_goal = equal (prog_side adds) (prog_side skips)

two_printable : ArePrintable W8 2 adds skips
two_printable = record {
  vars = omega arith;
  left = record {
    in_range = (omega arith, (omega arith, tt), tt);
    narrow = (tt, (tt, omega arith), tt);
    small_exprs = let three : 3 ≤ 1000 = omega arith in three;
    small = let four : 4 ≤ 100000 = omega arith in four;
    shallow = let two : 2 ≤ 200 = omega arith in two;
  };
  right = record {
    in_range = tt;
    narrow = tt;
    small_exprs = let none : 0 ≤ 1000 = omega arith in none;
    small = let one : 1 ≤ 100000 = omega arith in one;
    shallow = let one : 1 ≤ 200 = omega arith in one;
  };
  short = subst (λ (l : List ℕ). length l ≤ MAX_TEXT_BYTES) (sym two_spelled) (let bytes : 82 ≤ 1048576 = omega arith in bytes);
}

two_posed : PosesPrograms two_text W8 2 two_goal
two_posed = subst (λ (l : List ℕ). PosesPrograms l W8 2 two_goal) two_spelled (programs_read_back W8 2 adds skips two_printable)

-- ---- a triple

-- a loop that sets variable 0 to 1, and the condition that the variable is 1
abbrev sets : ProgTree
sets = loop_then (compared Lt (variable 0) (number 1)) (assign_then 0 (number 1) empty) empty

abbrev is_one : CondTree
is_one = compared Eq (variable 0) (number 1)

abbrev loop_text : List ℕ
loop_text = codes "width 8;\nvar x0;\nprog P { while (x0 < 1) { x0 := 1; } }\ngoal triple {true} P {(x0 == 1)};\n"

loop_spelled : triple_text W8 1 always sets is_one ≡ loop_text
loop_spelled = rw (zero_written, one_written) refl

abbrev loop_goal : GoalTree
loop_goal = triple always (prog_side sets) is_one

loop_printable : IsTriplePrintable W8 1 always sets is_one
loop_printable = record {
  vars = omega arith;
  pre = record {
    in_range = tt;
    narrow = tt;
    small_exprs = let none : 0 ≤ 1000 = omega arith in none;
    small = let one : 1 ≤ 100000 = omega arith in one;
    shallow = let one : 1 ≤ 200 = omega arith in one;
  };
  body = record {
    in_range = ((omega arith, tt), (omega arith, tt, tt), tt);
    narrow = ((tt, omega arith), (tt, omega arith, tt), tt);
    small_exprs = let one : 1 ≤ 1000 = omega arith in one;
    small = let six : 6 ≤ 100000 = omega arith in six;
    shallow = let two : 2 ≤ 200 = omega arith in two;
  };
  post = record {
    in_range = (omega arith, tt);
    narrow = (tt, omega arith);
    small_exprs = let one : 1 ≤ 1000 = omega arith in one;
    small = let three : 3 ≤ 100000 = omega arith in three;
    shallow = let two : 2 ≤ 200 = omega arith in two;
  };
  short = subst (λ (l : List ℕ). length l ≤ MAX_TEXT_BYTES) (sym loop_spelled) (let bytes : 90 ≤ 1048576 = omega arith in bytes);
}

loop_posed : PosesPrograms loop_text W8 1 loop_goal
loop_posed = subst (λ (l : List ℕ). PosesPrograms l W8 1 loop_goal) loop_spelled (triples_read_back W8 1 always sets is_one loop_printable)

-- ---- one program, over variables of other names

abbrev two_names : Meaning → List ℕ
two_names (Var k) = if k == 0 then codes "n" else codes "pc"
two_names m = []

-- a program that sets a counter and then sets it to 0 in a loop
abbrev stops : ProgTree
stops = assign_then 1 (plus (variable 0) (number 1)) (loop_then (compared Ne (variable 1) (number 0)) (assign_then 1 (number 0) empty) empty)

stops_text : List ℕ
stops_text = codes "width 8;\nvar n, pc;\nprog main { pc := (n + 1); while (pc != 0) { pc := 0; } }\ngoal equal main, main;\n"

stops_spelled : one_program_text two_names W8 2 (codes "main") stops ≡ stops_text
unfolding stops_text
stops_spelled = rw (zero_written, one_written) refl

two_identifiers : (k : ℕ) → k < 2 → IsIdentifier (two_names (Var k))
two_identifiers zero lt = record { name = word_is_name (codes "n") refl; no_keyword = refl }
two_identifiers (suc zero) lt = record { name = word_is_name (codes "pc") refl; no_keyword = refl }
two_identifiers (suc (suc k)) lt = absurd (omega (arith, lt))

two_apart : (j k : ℕ) → j < 2 → k < 2 → two_names (Var j) ≡ two_names (Var k) → j ≡ k
two_apart zero zero lj lk e = refl
two_apart zero (suc zero) lj lk e = absurd cc
two_apart zero (suc (suc k)) lj lk e = absurd (omega (arith, lk))
two_apart (suc zero) zero lj lk e = absurd cc
two_apart (suc zero) (suc zero) lj lk e = refl
two_apart (suc zero) (suc (suc k)) lj lk e = absurd (omega (arith, lk))
two_apart (suc (suc j)) k lj lk e = absurd (omega (arith, lj))

no_main : (k : ℕ) → k < 2 → two_names (Var k) ≡ codes "main" → ⊥
no_main zero lt e = cc
no_main (suc zero) lt e = cc
no_main (suc (suc k)) lt e = omega (arith, lt)

stops_printable : IsOnePrintable two_names W8 2 (codes "main") stops
unfolding stops_text
stops_printable = record {
  vars = omega arith;
  var_names = record { identifiers = two_identifiers; apart = two_apart };
  identifier = record { name = word_is_name (codes "main") refl; no_keyword = refl };
  no_var = no_main;
  program = record {
    in_range = (omega arith, (omega arith, tt), ((omega arith, tt), (omega arith, tt, tt), tt));
    narrow = (tt, (tt, omega arith), ((tt, omega arith), (tt, omega arith, tt), tt));
    small_exprs = let three : 3 ≤ 1000 = omega arith in three;
    small = let ten : 10 ≤ 100000 = omega arith in ten;
    shallow = let two : 2 ≤ 200 = omega arith in two;
  };
  short = subst (λ (l : List ℕ). length l ≤ MAX_TEXT_BYTES) (sym stops_spelled) (let bytes : 101 ≤ 1048576 = omega arith in bytes);
}

stops_denoted : DenotesProgram stops_text two_names W8 2 (codes "main") stops
stops_denoted = subst (λ (l : List ℕ). DenotesProgram l two_names W8 2 (codes "main") stops) stops_spelled (program_reads_back two_names W8 2 (codes "main") stops stops_printable)
