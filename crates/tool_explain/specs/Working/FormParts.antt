-- The parts of the signed text of a form that are printed separately.
use Rattle.std.specs.Prelude.{ℕ, List, [], ◌++◌, codes, Bool}
use Rattle.text_parser.specs.declared.meaning.Meaning.{Meaning}
use Rattle.text_parser.specs.declared.meaning.Meaning.TheVariants.{Var}
use Rattle.linear_forms.specs.Forms.{MonoTree, var, product, TermTree, constant}
use Rattle.kat_report.specs.Shows.{times_text}
use Rattle.tool_explain.specs.Signed.{is_negative, magnitude, sign_text, signed_text, signed_sum, half_part, half_sum}

-- the name of a variable, or the factors of a product in parentheses
abbrev pub mono_text : ℕ → (Meaning → List ℕ) → MonoTree → List ℕ
mono_text m names (var k) = names (Var k)
mono_text m names (product f g) = codes "(" ++ signed_text m names f ++ codes ")*(" ++ signed_text m names g ++ codes ")"

-- a term with its sign, and a term of half of a form
abbrev pub signed_part : ℕ → (Meaning → List ℕ) → Bool → TermTree → List ℕ
signed_part m names first x = sign_text first (is_negative m x.1) ++ times_text (magnitude m x.1) ++ mono_text m names x.0

abbrev pub half_term : ℕ → Bool → (Meaning → List ℕ) → Bool → TermTree → List ℕ
half_term m side names first x = half_part m side first x.1 (mono_text m names x.0)

-- the constant at the end of a form, and of half of a form; the names do not matter
abbrev no_names : Meaning → List ℕ
no_names meaning = []

abbrev pub signed_constant : ℕ → Bool → ℕ → List ℕ
signed_constant m first c = signed_sum m no_names first (constant c)

abbrev pub half_constant : ℕ → Bool → Bool → ℕ → List ℕ
half_constant m side first c = half_sum m side no_names first (constant c)
