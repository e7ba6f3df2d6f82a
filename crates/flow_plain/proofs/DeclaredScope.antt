-- The declarations of a plain text are known by their names.
use Rattle.std.proofs.Common.{◌≡◌, ◌≤◌, ◌<◌, ◌+◌, ◌^◌, ◌⊎◌, ℕ, zero, suc, List, [], ◌∷◌, ◌++◌, length, map, true, false, cond, nat_lt, Some, None, Ok, refl, sym, ap, ◌∙◌, subst, inl, inr, append_assoc, length-append, ⊎_elim, arith}
use Rattle.std.proofs.lemmas.List.{append-nil}
use Rattle.std.proofs.lemmas.Bool.{lt-ltb, le-ltb, cases_lt, cases_Bool, true≢false}
use Rattle.std.proofs.lemmas.Fmt.{decimal_injective}
use Rattle.std.proofs.lemmas.Slice.Eq.{bytes_eq-Decides}
use Rattle.std.specs.Prelude.{codes}
use Rattle.std.specs.Fmt.{decimal}
use Rattle.std.specs.Str.{bytes_eq}
use Rattle.std.specs.FinMap.{get, insert}
use Rattle.kat_model.specs.declared.expression.Width.TheVariants.{W8, W16, W32, W64}
use Rattle.text_parser.specs.declared.token.Kind.TheVariants.{Name}
use Rattle.text_parser.specs.TokenParts.{token_parts}
use Rattle.flow_model.specs.declared.sort.Sort.{Sort}
use Rattle.flow_model.specs.declared.sort.Sort.TheVariants.{Number as NumberSort, Opaque}
use Rattle.flow_syntax.specs.Syntax.{ItemSyntax}
use Rattle.flow_text.specs.declared.meaning.Meaning.{Meaning}
use Rattle.flow_text.specs.declared.meaning.Meaning.TheVariants.{SortName, Function, Variable, GraphName}
use Rattle.flow_text.specs.declared.limits.TheConstants.{MAX_SORTS, MAX_FUNCTIONS, MAX_PARAMETERS, MAX_VARIABLES}
use Rattle.flow_text.specs.Scopes.{FunctionParts, function_parts, ScopeParts, with_sort, may_have_function, with_function, with_variable, may_have_graph, with_graph, is_declared, if_declared, sort_named, parameters_after}
use Rattle.flow_text.specs.Checking.{Known, in_scope, items_known}
use Rattle.flow_text.proofs.NameTables.{get-insert_name}
use Rattle.flow_plain.specs.PlainGraphs.{Declared, sort_text, variable_name, function_name}
use Rattle.flow_plain.specs.PrintableGraphs.{IsDeclared, AreDeclared, AreFunctions}
use Rattle.flow_plain.proofs.PlainPieces.{more_names_syntax, parameters_syntax, sort_end, function_end, variable_end, sorts_syntax, functions_syntax, variables_syntax}
use Rattle.flow_plain.proofs.ResolvedExprs.{IsScope}

-- ---- names

abbrev pub name_of : Meaning → List ℕ
name_of (SortName k) = sort_text (Opaque k)
name_of (Function k) = function_name k
name_of (Variable k) = variable_name k
name_of (GraphName zero) = codes "before"
name_of (GraphName (suc k)) = codes "after"

abbrev pub IsSmall : Meaning → Type 0
IsSmall (SortName k) = k < 2 ^ 64
IsSmall (Function k) = k < 2 ^ 64
IsSmall (Variable k) = k < 2 ^ 64
IsSmall (GraphName k) = k < 2

-- a name means what it names once that is declared
abbrev pub Means : ScopeParts → Type 0
Means s = (m : Meaning) → IsSmall m → get s.meanings (name_of m) ≡ if_declared s (Some m)

no_number : (j k : ℕ) → j < 2 ^ 64 → k < 2 ^ 64 → bytes_eq (decimal j) (decimal k) ≡ true → j ≡ k
no_number j k low few e = decimal_injective j k low few ((bytes_eq-Decides (decimal j) (decimal k)).0 e)

names_same : (n m : Meaning) → IsSmall n → IsSmall m → bytes_eq (name_of n) (name_of m) ≡ true → n ≡ m
names_same (SortName j) (SortName k) low few e = ap SortName (no_number j k low few e)
names_same (SortName j) (Function k) low few e = absurd (true≢false (sym e))
names_same (SortName j) (Variable k) low few e = absurd (true≢false (sym e))
names_same (SortName j) (GraphName zero) low few e = absurd (true≢false (sym e))
names_same (SortName j) (GraphName (suc k)) low few e = absurd (true≢false (sym e))
names_same (Function j) (SortName k) low few e = absurd (true≢false (sym e))
names_same (Function j) (Function k) low few e = ap Function (no_number j k low few e)
names_same (Function j) (Variable k) low few e = absurd (true≢false (sym e))
names_same (Function j) (GraphName zero) low few e = absurd (true≢false (sym e))
names_same (Function j) (GraphName (suc k)) low few e = absurd (true≢false (sym e))
names_same (Variable j) (SortName k) low few e = absurd (true≢false (sym e))
names_same (Variable j) (Function k) low few e = absurd (true≢false (sym e))
names_same (Variable j) (Variable k) low few e = ap Variable (no_number j k low few e)
names_same (Variable j) (GraphName zero) low few e = absurd (true≢false (sym e))
names_same (Variable j) (GraphName (suc k)) low few e = absurd (true≢false (sym e))
names_same (GraphName zero) (SortName k) low few e = absurd (true≢false (sym e))
names_same (GraphName zero) (Function k) low few e = absurd (true≢false (sym e))
names_same (GraphName zero) (Variable k) low few e = absurd (true≢false (sym e))
names_same (GraphName zero) (GraphName zero) low few e = refl
names_same (GraphName zero) (GraphName (suc k)) low few e = absurd (true≢false (sym e))
names_same (GraphName (suc j)) (SortName k) low few e = absurd (true≢false (sym e))
names_same (GraphName (suc j)) (Function k) low few e = absurd (true≢false (sym e))
names_same (GraphName (suc j)) (Variable k) low few e = absurd (true≢false (sym e))
names_same (GraphName (suc j)) (GraphName zero) low few e = absurd (true≢false (sym e))
names_same (GraphName (suc j)) (GraphName (suc k)) low few e = ap GraphName (omega (arith, low, few))

-- another name is declared
new_means : (s t : ScopeParts) (n : Meaning) → IsSmall n → t.meanings ≡ insert s.meanings (name_of n) n → is_declared t n ≡ true → ((m : Meaning) → (n ≡ m → ⊥) → is_declared t m ≡ is_declared s m) → Means s → Means t
new_means s t n low made here others means m few =
    ap (λ table. get table (name_of m)) made ∙ get-insert_name s.meanings (name_of n) n (name_of m) ∙ by_case (cases_Bool (bytes_eq (name_of n) (name_of m))) where
      by_case : (bytes_eq (name_of n) (name_of m) ≡ true) ⊎ (bytes_eq (name_of n) (name_of m) ≡ false) → cond (bytes_eq (name_of n) (name_of m)) (Some n) (get s.meanings (name_of m)) ≡ if_declared t (Some m)
      by_case (inl e) =
          let same = names_same n m low few e in
          rw e (subst (λ (k : Meaning). Some n ≡ if_declared t (Some k)) same (rw here refl))
      by_case (inr e) =
          let differs : n ≡ m → ⊥ = λ same. true≢false (sym ((bytes_eq-Decides (name_of n) (name_of m)).1 (ap name_of same)) ∙ e) in
          rw (e, others m differs) (means m few)

lt_next : (k n : ℕ) → (n ≡ k → ⊥) → nat_lt k (n + 1) ≡ nat_lt k n
lt_next k n other = ⊎_elim
    (λ (below : k < n). lt-ltb k (n + 1) (omega (arith, below)) ∙ sym (lt-ltb k n below))
    (λ (above : n ≤ k). le-ltb k (n + 1) (omega (arith, above, other)) ∙ sym (le-ltb k n above))
    (cases_lt k n)

no_meaning : (s : ScopeParts) (m : Meaning) → Means s → IsSmall m → is_declared s m ≡ false → get s.meanings (name_of m) ≡ None
no_meaning s m means low e = means m low ∙ rw e refl

some_meaning : (s : ScopeParts) (m : Meaning) → Means s → IsSmall m → is_declared s m ≡ true → get s.meanings (name_of m) ≡ Some m
some_meaning s m means low e = means m low ∙ rw e refl

-- ---- one more declaration

abbrev sort_added : ScopeParts → ScopeParts
sort_added s = record { meanings = insert s.meanings (sort_text (Opaque s.sorts)) (SortName s.sorts); sorts = s.sorts + 1; functions = s.functions; variables = s.variables; graphs = s.graphs }

add_sort : (s : ScopeParts) (at : ℕ) → Means s → s.sorts < MAX_SORTS → with_sort s (token_parts Name at (sort_text (Opaque s.sorts))) ≡ Ok (sort_added s)
add_sort s at means low =
    let none = no_meaning s (SortName s.sorts) means (omega (arith, low)) (le-ltb s.sorts s.sorts (omega arith)) in
    rw (none, lt-ltb s.sorts MAX_SORTS low) refl

sort_means : (s : ScopeParts) → Means s → s.sorts < MAX_SORTS → Means (sort_added s)
sort_means s means low = new_means s (sort_added s) (SortName s.sorts) (omega (arith, low)) refl (lt-ltb s.sorts (s.sorts + 1) (omega arith)) others means where
  others : (m : Meaning) → (SortName s.sorts ≡ m → ⊥) → is_declared (sort_added s) m ≡ is_declared s m
  others (SortName k) other = lt_next k s.sorts (λ e. other (ap SortName e))
  others (Function k) other = refl
  others (Variable k) other = refl
  others (GraphName k) other = refl

add_function : (s : ScopeParts) (n at : ℕ) → length s.functions ≡ n → Means s → n < MAX_FUNCTIONS → may_have_function s (token_parts Name at (function_name n)) ≡ Ok tt
add_function s n at count means low =
    let none = no_meaning s (Function n) means (omega (arith, low)) (le-ltb n (length s.functions) (omega (arith, count))) in
    rw (none, lt-ltb (length s.functions) MAX_FUNCTIONS (omega (arith, count, low))) refl

function_means : (s : ScopeParts) (n at : ℕ) (result : Sort) (ps : List Sort) → length s.functions ≡ n → Means s → n < MAX_FUNCTIONS → Means (with_function s (token_parts Name at (function_name n)) result ps)
function_means s n at result ps count means low =
    let t = with_function s (token_parts Name at (function_name n)) result ps in
    let longer : length t.functions ≡ length s.functions + 1 = length-append s.functions (function_parts result ps ∷ []) in
    new_means s t (Function n) (omega (arith, low)) (ap (λ (k : ℕ). insert s.meanings (function_name n) (Function k)) count) (lt-ltb n (length t.functions) (omega (arith, longer, count))) (others longer) means where
      others : length (s.functions ++ function_parts result ps ∷ []) ≡ length s.functions + 1 → (m : Meaning) → (Function n ≡ m → ⊥) → is_declared (with_function s (token_parts Name at (function_name n)) result ps) m ≡ is_declared s m
      others longer (SortName k) other = refl
      others longer (Function k) other = ap (nat_lt k) longer ∙ lt_next k (length s.functions) (λ e. other (ap Function (sym count ∙ e)))
      others longer (Variable k) other = refl
      others longer (GraphName k) other = refl

abbrev variable_added : ScopeParts → Sort → ScopeParts
variable_added s sort = record { meanings = insert s.meanings (variable_name (length s.variables)) (Variable (length s.variables)); sorts = s.sorts; functions = s.functions; variables = s.variables ++ sort ∷ []; graphs = s.graphs }

add_variable : (s : ScopeParts) (sort : Sort) (n at : ℕ) → length s.variables ≡ n → Means s → n < MAX_VARIABLES → with_variable s sort (token_parts Name at (variable_name n)) ≡ Ok (variable_added s sort)
add_variable s sort n at count means low = subst (λ (k : ℕ). with_variable s sort (token_parts Name at (variable_name k)) ≡ Ok (variable_added s sort)) count added where
  added : with_variable s sort (token_parts Name at (variable_name (length s.variables))) ≡ Ok (variable_added s sort)
  added =
      let none = no_meaning s (Variable (length s.variables)) means (omega (arith, low, count)) (le-ltb (length s.variables) (length s.variables) (omega arith)) in
      rw (none, lt-ltb (length s.variables) MAX_VARIABLES (omega (arith, low, count))) refl

variable_means : (s : ScopeParts) (sort : Sort) → Means s → length s.variables < MAX_VARIABLES → Means (variable_added s sort)
variable_means s sort means low =
    let longer : length (s.variables ++ sort ∷ []) ≡ length s.variables + 1 = length-append s.variables (sort ∷ []) in
    new_means s (variable_added s sort) (Variable (length s.variables)) (omega (arith, low)) refl (lt-ltb (length s.variables) (length (s.variables ++ sort ∷ [])) (omega (arith, longer))) (others longer) means where
      others : length (s.variables ++ sort ∷ []) ≡ length s.variables + 1 → (m : Meaning) → (Variable (length s.variables) ≡ m → ⊥) → is_declared (variable_added s sort) m ≡ is_declared s m
      others longer (SortName k) other = refl
      others longer (Function k) other = refl
      others longer (Variable k) other = ap (nat_lt k) longer ∙ lt_next k (length s.variables) (λ e. other (ap Variable e))
      others longer (GraphName k) other = refl

-- graph `k`, of two
pub add_graph : (s : ScopeParts) (k at : ℕ) → s.graphs ≡ k → k < 2 → Means s → may_have_graph s (token_parts Name at (name_of (GraphName k))) ≡ Ok tt
add_graph s k at count low means = let none = no_meaning s (GraphName k) means low (le-ltb k s.graphs (omega (arith, count))) in rw none refl

pub graph_means : (s : ScopeParts) (k at : ℕ) → s.graphs ≡ k → k < 2 → Means s → Means (with_graph s (token_parts Name at (name_of (GraphName k))) k)
graph_means s k at count low means = new_means s (with_graph s (token_parts Name at (name_of (GraphName k))) k) (GraphName k) low refl (lt-ltb k (k + 1) (omega arith)) others means where
  others : (m : Meaning) → (GraphName k ≡ m → ⊥) → is_declared (with_graph s (token_parts Name at (name_of (GraphName k))) k) m ≡ is_declared s m
  others (SortName j) other = refl
  others (Function j) other = refl
  others (Variable j) other = refl
  others (GraphName j) other = lt_next j k (λ e. other (ap GraphName e)) ∙ ap (nat_lt j) (sym count)

pub graph_meant_is : (s : ScopeParts) (k : ℕ) → k < s.graphs → k < 2 → Means s → get s.meanings (name_of (GraphName k)) ≡ Some (GraphName k)
graph_meant_is s k inside low means = some_meaning s (GraphName k) means low (lt-ltb k s.graphs inside)

-- ---- sorts of declarations

sort_found : (s : ScopeParts) (n : ℕ) (sort : Sort) (at : ℕ) → Means s → s.sorts ≡ n → n ≤ 2 ^ 64 → IsDeclared n sort → sort_named s (token_parts Name at (sort_text sort)) ≡ Ok sort
sort_found s n (NumberSort W8) at means count low h = refl
sort_found s n (NumberSort W16) at means count low h = refl
sort_found s n (NumberSort W32) at means count low h = refl
sort_found s n (NumberSort W64) at means count low h = refl
sort_found s n (Opaque k) at means count low h =
    let known = some_meaning s (SortName k) means (omega (arith, h, low)) (lt-ltb k s.sorts (omega (arith, h, count))) in rw known refl

parameters_found : (s : ScopeParts) (n : ℕ) (before ss : List Sort) (at : ℕ) → Means s → s.sorts ≡ n → n ≤ 2 ^ 64 → length before + length ss ≤ MAX_PARAMETERS → AreDeclared n ss → parameters_after s before (more_names_syntax (map sort_text ss) at) ≡ Ok (before ++ ss)
parameters_found s n before [] at means count low room h = ap Ok (sym (append-nil before))
parameters_found s n before (x ∷ xs) at means count low room h =
    let longer = length-append before (x ∷ []) in
    rw (sort_found s n x (at + 1 + 1) means count low h.0, lt-ltb (length before) MAX_PARAMETERS (omega (arith, room)))
    (parameters_found s n (before ++ x ∷ []) xs (at + 1 + 1 + length (sort_text x)) means count low (omega (arith, room, longer)) h.1 ∙ ap Ok (append_assoc before (x ∷ []) xs))

all_parameters : (s : ScopeParts) (n : ℕ) (ss : List Sort) (at : ℕ) → Means s → s.sorts ≡ n → n ≤ 2 ^ 64 → length ss ≤ MAX_PARAMETERS → AreDeclared n ss → parameters_after s [] (parameters_syntax ss at) ≡ Ok ss
all_parameters s n [] at means count low room h = refl
all_parameters s n (x ∷ xs) at means count low room h =
    rw (sort_found s n x at means count low h.0) (parameters_found s n (x ∷ []) xs (at + length (sort_text x)) means count low (omega (arith, room)) h.1)

-- ---- all declarations

-- the items lead to others with these declarations known
pub record Goes (k : Known) (is : List ItemSyntax) (next : ℕ → List ItemSyntax) (P : ScopeParts → Type 0) : Type 0 where
  pub place : ℕ
  pub scope : ScopeParts
  pub goes : items_known k is ≡ items_known (in_scope k scope) (next place)
  pub holds : P scope

-- `n` sorts, these functions and variables, and no graph yet
pub record Declares (n : ℕ) (fs : List FunctionParts) (ss : List Sort) (s : ScopeParts) : Type 0 where
  pub means : Means s
  pub sorts : s.sorts ≡ n
  pub functions : s.functions ≡ fs
  pub variables : s.variables ≡ ss
  pub graphs : s.graphs ≡ 0

pub sorts_go : (next : ℕ → List ItemSyntax) (n at : ℕ) (k : Known) → k.scope.sorts + n ≤ MAX_SORTS → Declares k.scope.sorts [] [] k.scope → Goes k (sorts_syntax next k.scope.sorts n at) next (Declares (k.scope.sorts + n) [] [])
sorts_go next zero at k room h = record { place = at; scope = k.scope; goes = refl; holds = record { means = h.means; sorts = omega arith; functions = h.functions; variables = h.variables; graphs = h.graphs } }
sorts_go next (suc n) at k room h =
    let u = sort_added k.scope in
    let added = add_sort k.scope (at + 4 + 1) h.means (omega (arith, room)) in
    let more = sorts_go next n (sort_end k.scope.sorts at) (in_scope k u) (omega (arith, room)) (record { means = sort_means k.scope h.means (omega (arith, room)); sorts = refl; functions = h.functions; variables = h.variables; graphs = h.graphs }) in
    record {
      place = more.place;
      scope = more.scope;
      goes = rw added more.goes;
      holds = record { means = more.holds.means; sorts = more.holds.sorts ∙ omega arith; functions = more.holds.functions; variables = more.holds.variables; graphs = more.holds.graphs };
    }

pub functions_go : (next : ℕ → List ItemSyntax) (n : ℕ) (before fs : List FunctionParts) (j at : ℕ) (k : Known) → length before ≡ j → n ≤ MAX_SORTS → j + length fs ≤ MAX_FUNCTIONS → AreFunctions n fs → Declares n before [] k.scope → Goes k (functions_syntax next j fs at) next (Declares n (before ++ fs) [])
functions_go next n before [] j at k count low room are h = record { place = at; scope = k.scope; goes = refl; holds = record { means = h.means; sorts = h.sorts; functions = h.functions ∙ sym (append-nil before); variables = h.variables; graphs = h.graphs } }
functions_go next n before (function_parts result ps ∷ fs) j at k count low room are h =
    let few : n ≤ 2 ^ 64 = omega (arith, low) in
    let counted : length k.scope.functions ≡ j = ap length h.functions ∙ count in
    let place = at + 3 + 1 + length (sort_text result) + 1 in
    let u = with_function k.scope (token_parts Name place (function_name j)) result ps in
    let longer : length (before ++ function_parts result ps ∷ []) ≡ j + 1 = length-append before (function_parts result ps ∷ []) ∙ ap (λ (i : ℕ). i + 1) count in
    let more = functions_go next n (before ++ function_parts result ps ∷ []) fs (j + 1) (function_end j (function_parts result ps) at) (in_scope k u) longer low (omega (arith, room)) are.3 (record { means = function_means k.scope j place result ps counted h.means (omega (arith, room)); sorts = h.sorts; functions = ap (λ l. l ++ function_parts result ps ∷ []) h.functions; variables = h.variables; graphs = h.graphs }) in
    record {
      place = more.place;
      scope = more.scope;
      goes = rw (sort_found k.scope n result (at + 3 + 1) h.means h.sorts few are.0, add_function k.scope j place counted h.means (omega (arith, room)), all_parameters k.scope n ps (place + length (function_name j) + 1) h.means h.sorts few are.2 are.1) more.goes;
      holds = record { means = more.holds.means; sorts = more.holds.sorts; functions = more.holds.functions ∙ append_assoc before (function_parts result ps ∷ []) fs; variables = more.holds.variables; graphs = more.holds.graphs };
    }

pub variables_go : (next : ℕ → List ItemSyntax) (n : ℕ) (fs : List FunctionParts) (before ss : List Sort) (j at : ℕ) (k : Known) → length before ≡ j → n ≤ MAX_SORTS → j + length ss ≤ MAX_VARIABLES → AreDeclared n ss → Declares n fs before k.scope → Goes k (variables_syntax next j ss at) next (Declares n fs (before ++ ss))
variables_go next n fs before [] j at k count low room are h = record { place = at; scope = k.scope; goes = refl; holds = record { means = h.means; sorts = h.sorts; functions = h.functions; variables = h.variables ∙ sym (append-nil before); graphs = h.graphs } }
variables_go next n fs before (x ∷ xs) j at k count low room are h =
    let few : n ≤ 2 ^ 64 = omega (arith, low) in
    let counted : length k.scope.variables ≡ j = ap length h.variables ∙ count in
    let place = at + 3 + 1 + length (sort_text x) + 1 in
    let u = variable_added k.scope x in
    let longer : length (before ++ x ∷ []) ≡ j + 1 = length-append before (x ∷ []) ∙ ap (λ (i : ℕ). i + 1) count in
    let more = variables_go next n fs (before ++ x ∷ []) xs (j + 1) (variable_end j x at) (in_scope k u) longer low (omega (arith, room)) are.1 (record { means = variable_means k.scope x h.means (omega (arith, counted, room)); sorts = h.sorts; functions = h.functions; variables = ap (λ l. l ++ x ∷ []) h.variables; graphs = h.graphs }) in
    record {
      place = more.place;
      scope = more.scope;
      goes = rw (sort_found k.scope n x (at + 3 + 1) h.means h.sorts few are.0, add_variable k.scope x j place counted h.means (omega (arith, room))) more.goes;
      holds = record { means = more.holds.means; sorts = more.holds.sorts; functions = more.holds.functions; variables = more.holds.variables ∙ append_assoc before (x ∷ []) xs; graphs = more.holds.graphs };
    }

-- ---- the scope of a graph

-- a scope with the meanings of another one finds variables and functions
pub scope_is : (d : Declared) (sorts : List Sort) (s u : ScopeParts) → length sorts ≤ 2 ^ 64 → length d.functions ≤ 2 ^ 64 → Means u → s.meanings ≡ u.meanings → u.variables ≡ sorts → u.functions ≡ d.functions → s.variables ≡ sorts → s.functions ≡ d.functions → IsScope d sorts s
scope_is d sorts s u few small means same vs fs ws gs = record {
  variables = ws;
  functions = gs;
  variable_meant = λ k at inside.
      let there = some_meaning u (Variable k) means (omega (arith, inside, few)) (lt-ltb k (length u.variables) (rw vs inside)) in
      let here = lt-ltb k (length s.variables) (rw ws inside) in
      rw (same, there, here) refl;
  function_meant = λ k at inside.
      let there = some_meaning u (Function k) means (omega (arith, inside, small)) (lt-ltb k (length u.functions) (rw fs inside)) in
      let here = lt-ltb k (length s.functions) (rw gs inside) in
      rw (same, there, here) refl;
}
