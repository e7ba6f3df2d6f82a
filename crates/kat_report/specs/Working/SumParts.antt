-- The parts of the text of a form that are printed separately.
use Rattle.std.specs.Prelude.{ℕ, List, [], ◌++◌, codes, Bool, ◌&&◌, not, nat_eq, if◌then◌else◌}
use Rattle.std.specs.Fmt.{decimal}
use Rattle.text_parser.specs.declared.meaning.Meaning.{Meaning}
use Rattle.text_parser.specs.declared.meaning.Meaning.TheVariants.{Var}
use Rattle.linear_forms.specs.Forms.{MonoTree, var, product, TermTree}
use Rattle.kat_report.specs.Shows.{plus_text, times_text, form_text}

-- the name of a variable, or the factors of a product in parentheses
abbrev pub mono_text : (Meaning → List ℕ) → MonoTree → List ℕ
mono_text names (var k) = names (Var k)
mono_text names (product f g) = codes "(" ++ form_text names f ++ codes ")*(" ++ form_text names g ++ codes ")"

-- a term: its coefficient, then its monomial
abbrev pub term_text : (Meaning → List ℕ) → Bool → TermTree → List ℕ
term_text names first x = plus_text first ++ times_text x.1 ++ mono_text names x.0

-- the constant at the end of a form
abbrev pub constant_text : Bool → ℕ → List ℕ
constant_text first c = if not first && nat_eq c 0 then [] else plus_text first ++ decimal c
