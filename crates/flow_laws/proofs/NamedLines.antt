-- The names that a flow file declares are tokens of its text, so they are lines.
use Rattle.std.proofs.Common.{◌≡◌, ℕ, zero, suc, List, [], ◌∷◌, ◌++◌, map, length, Option, Some, None, true, not, ◌==◌, refl, sym, subst, arith}
use Rattle.std.specs.Prelude.{All}
use Rattle.std.specs.List.{list_all}
use Rattle.std.specs.Char.{is_ascii_digit}
use Rattle.std.specs.Cmp.Derive.{both_true}
use Rattle.std.proofs.lemmas.Bool.{and_parts}
use Rattle.std.proofs.lemmas.Bool.Decides.{nat_tests}
use Rattle.text_parser.specs.declared.token.Kind.{Kind}
use Rattle.text_parser.specs.declared.token.Kind.TheVariants.{Name, Number, Symbol}
use Rattle.text_parser.specs.Kinds.{IsToken}
use Rattle.text_parser.specs.Lex.{IsSlice}
use Rattle.text_parser.specs.TokenParts.{TokenParts, kind_of, bytes_of}
use Rattle.text_parser.proofs.Beginnings.{is_mark, is_marks, symbol_marks, number_digits}
use Rattle.text_parser.proofs.Printed.{token_utf8}
use Rattle.text_parser.proofs.Slices.{slices_from}
use Rattle.problem_file.specs.CommentedTexts.{IsComment}
use Rattle.problem_file.proofs.Comments.{comment_nil, comment_name}
use Rattle.flow_syntax.specs.Syntax.{ItemSyntax, sorts, function, variables, graph, rounds, split, equal, matching}
use Rattle.flow_syntax.proofs.NamedValues.{Each, AreNamed, spelled_named}
use Rattle.flow_text.specs.DeclaredNames.{variable_names, function_names}
use Rattle.flow_text.specs.Checking.{FlowFileParts, Known, nothing_known, items_known, matches_of, shared_sorts, graphs_after, with_goal, file_of}
use Rattle.flow_text.specs.Texts.{IsFlowText}
use Rattle.flow_laws.proofs.Holding.{Holds, any_holds, then_holds, value_holds}

-- ---- tokens are lines

digit_line : (b : ℕ) → is_ascii_digit b ≡ true → not (b == 10) ≡ true
digit_line b h = grind (arith, nat_tests)

digits_line : (bs : List ℕ) → list_all is_ascii_digit bs ≡ true → list_all (λ b. not (b == 10)) bs ≡ true
digits_line [] h = refl
digits_line (b ∷ bs) h = let two = and_parts (is_ascii_digit b) (list_all is_ascii_digit bs) h in both_true (digit_line b two.0) (digits_line bs two.1)

mark_line : (b : ℕ) → is_mark b ≡ true → not (b == 10) ≡ true
mark_line b h = grind (arith, nat_tests)

marks_line : (bs : List ℕ) → is_marks bs ≡ true → list_all (λ b. not (b == 10)) bs ≡ true
marks_line [] h = cc
marks_line (a ∷ []) h = both_true (mark_line a h) refl
marks_line (a ∷ b ∷ []) h = let two = and_parts (is_mark a) (is_mark b) h in both_true (mark_line a two.0) (both_true (mark_line b two.1) refl)
marks_line (a ∷ b ∷ c ∷ more) h = cc

token_line : (kind : Kind) (bytes : List ℕ) → IsToken kind bytes → IsComment bytes
token_line Name bytes h = comment_name bytes h
token_line Number bytes h = (token_utf8 Number bytes h, digits_line bytes (number_digits bytes h))
token_line Symbol bytes h = (token_utf8 Symbol bytes h, marks_line bytes (symbol_marks bytes h))

abbrev IsLine : TokenParts → Type 0
IsLine t = IsComment (bytes_of t)

lines_from : (text : List ℕ) (ts : List TokenParts) → All (IsSlice text) ts → Each IsLine ts
lines_from text [] h = tt
lines_from text (t ∷ ts) h =
    let here : IsSlice text t = h 0 t (omega arith) in
    (token_line (kind_of t) (bytes_of t) here.is_token, lines_from text ts (λ k d lt. h (suc k) d (omega (arith, lt))))

-- ---- the names of a file

abbrev AreComments : List (List ℕ) → Type 0
AreComments [] = Unit {0}
AreComments (x ∷ xs) = IsComment x × AreComments xs

all_comments : (xs : List (List ℕ)) → AreComments xs → All IsComment xs
all_comments [] h k d lt = absurd (omega (arith, lt))
all_comments (x ∷ xs) h zero d lt = h.0
all_comments (x ∷ xs) h (suc k) d lt = all_comments xs h.1 k d (omega (arith, lt))

names_before : (ts : List TokenParts) (ns : List (List ℕ)) → Each IsLine ts → AreComments ns → AreComments (map bytes_of ts ++ ns)
names_before [] ns l h = h
names_before (t ∷ ts) ns l h = (l.0, names_before ts ns l.1 h)

variables_named : (is : List ItemSyntax) → AreNamed IsLine is → AreComments (variable_names is)
variables_named [] h = tt
variables_named (sorts word names ∷ xs) h = variables_named xs h
variables_named (function word result name parameters ∷ xs) h = variables_named xs h.1
variables_named (variables word sort names ∷ xs) h = names_before names (variable_names xs) h.0 (variables_named xs h.1)
variables_named (graph word name bs ∷ xs) h = variables_named xs h
variables_named (rounds word number ∷ xs) h = variables_named xs h
variables_named (split word ∷ xs) h = variables_named xs h
variables_named (equal word before after ∷ xs) h = variables_named xs h
variables_named (matching word m ∷ xs) h = variables_named xs h

functions_named : (is : List ItemSyntax) → AreNamed IsLine is → AreComments (function_names is)
functions_named [] h = tt
functions_named (sorts word names ∷ xs) h = functions_named xs h
functions_named (function word result name parameters ∷ xs) h = (h.0, functions_named xs h.1)
functions_named (variables word sort names ∷ xs) h = functions_named xs h.1
functions_named (graph word name bs ∷ xs) h = functions_named xs h
functions_named (rounds word number ∷ xs) h = functions_named xs h
functions_named (split word ∷ xs) h = functions_named xs h
functions_named (equal word before after ∷ xs) h = functions_named xs h
functions_named (matching word m ∷ xs) h = functions_named xs h

abbrev HasNames : List (List ℕ) → List (List ℕ) → FlowFileParts → Type 0
HasNames vs fs f = (f.variable_names ≡ vs) × (f.function_names ≡ fs)

goal_names : (vs fs : List (List ℕ)) (k : Known) (goal : Option (ℕ × ℕ)) → Holds (HasNames vs fs) (with_goal vs fs k goal)
goal_names vs fs k None = tt
goal_names vs fs k (Some goal) =
    then_holds (λ ms. Unit {0}) (HasNames vs fs) (matches_of k goal) _ (any_holds (matches_of k goal)) (λ ms v.
    then_holds (λ gs. Unit {0}) (HasNames vs fs) (graphs_after k.scope goal (shared_sorts k.scope goal k.graphs) [] k.graphs) _ (any_holds (graphs_after k.scope goal (shared_sorts k.scope goal k.graphs) [] k.graphs)) (λ gs u. (refl, refl)))

file_names : (is : List ItemSyntax) → Holds (HasNames (variable_names is) (function_names is)) (file_of is)
file_names is =
    then_holds (λ k. Unit {0}) (HasNames (variable_names is) (function_names is)) (items_known nothing_known is) _ (any_holds (items_known nothing_known is)) (λ k u. goal_names (variable_names is) (function_names is) k k.goal)

-- each name of a flow file is UTF-8 without a line feed
pub names_lines : (text : List ℕ) (f : FlowFileParts) → IsFlowText text f → All IsComment f.variable_names × All IsComment f.function_names
names_lines text f h =
    let ts = h.spells.tokens in
    let named = spelled_named IsLine comment_nil ts (length text) h.spelled h.spells.spelled (lines_from text ts (slices_from text 0 ts (length text) h.spells.lexed.tokens)) in
    let same = value_holds (HasNames (variable_names h.spelled) (function_names h.spelled)) (file_of h.spelled) f (file_names h.spelled) h.file in (
      subst (All IsComment) (sym same.0) (all_comments (variable_names h.spelled) (variables_named h.spelled named)),
      subst (All IsComment) (sym same.1) (all_comments (function_names h.spelled) (functions_named h.spelled named)),
    )
