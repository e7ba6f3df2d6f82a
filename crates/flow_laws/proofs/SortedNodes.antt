-- Nodes resolved at the sorts that are wanted make expressions of these sorts.
use Rattle.std.proofs.Common.{◌≡◌, ℕ, ◌+◌, List, [], ◌∷◌, ◌++◌, map, drop, length, length-append, Bool, true, false, ◌&&◌, if◌then◌else◌, nat_eq, nat_lt, Option, Some, None, Result, Ok, slice_get, codes, refl, sym, ◌∙◌, ap, subst, arith, append_assoc}
use Rattle.std.specs.Str.{bytes_eq}
use Rattle.std.proofs.lemmas.Bool.{and_parts}
use Rattle.std.proofs.lemmas.Bool.Decides.{nat_tests}
use Rattle.std.proofs.lemmas.List.{append-nil, length-map}
use Rattle.kat_model.specs.Stores.{modulus}
use Rattle.kat_model.specs.declared.expression.Width.{Width}
use Rattle.kat_model.specs.declared.expression.Width.TheVariants.{W8, W16, W32, W64}
use Rattle.text_parser.specs.declared.fault.TextFault.{TextFault}
use Rattle.text_parser.specs.TokenParts.{TokenParts, bytes_of}
use Rattle.text_parser.specs.Parsed.{◌>>=◌}
use Rattle.flow_model.specs.declared.sort.Sort.{Sort}
use Rattle.flow_model.specs.declared.sort.Sort.TheVariants.{Number, Opaque}
use Rattle.flow_model.specs.declared.graph.ExprNode.{ExprNode}
use Rattle.flow_model.specs.declared.graph.ExprNode.TheVariants as node
use Rattle.flow_model.specs.Expressions.{ExprTree}
use Rattle.flow_model.specs.Polish.{arguments_of, with_node, exprs_of}
use Rattle.flow_forms.specs.Expressions.{or_number, sort_of, IsSorted}
use Rattle.flow_syntax.specs.Syntax.{NodeSyntax, numeral, named, called, converted, operation, ExprSyntax}
use Rattle.flow_syntax.specs.Terminals.{spelled_number}
use Rattle.flow_syntax.proofs.WholeSyntax.{operand_count, ArePolish}
use Rattle.flow_text.specs.declared.meaning.Meaning.{Meaning}
use Rattle.flow_text.specs.declared.meaning.Meaning.TheVariants.{Function, Variable}
use Rattle.flow_text.specs.Trees.{only_expr, expr_of}
use Rattle.flow_text.specs.Scopes.{FunctionParts, function_parts, ScopeParts, meaning_in, width_named, same_sort}
use Rattle.flow_text.specs.Resolving.{Expected, operand, second_operand, sort_or_u64, sort_of_first, number_of_width, number_in, with_expected_sort, variable_in, application_of, function_in, conversion_in, operator_on, operator_in, with_parameters, with_operand, node_in, next_node, nodes_after, resolved, expression_of}
use Rattle.flow_laws.proofs.Holding.{Holds, then_holds, if_holds, weakened}

-- ---- sorts

same_widths : (v w : Width) → same_sort (Number v) (Number w) ≡ true → Number v ≡ Number w
same_widths W8 W8 h = refl
same_widths W16 W16 h = refl
same_widths W32 W32 h = refl
same_widths W64 W64 h = refl
same_widths _ _ h = absurd cc

same_numbers : (j k : ℕ) → same_sort (Opaque j) (Opaque k) ≡ true → j ≡ k
same_numbers j k h = grind (arith, nat_tests)

sorts_same : (a b : Sort) → same_sort a b ≡ true → a ≡ b
sorts_same (Number v) (Number w) h = same_widths v w h
sorts_same (Opaque j) (Opaque k) h = ap (λ (i : ℕ). Opaque i) (same_numbers j k h)
sorts_same _ _ h = absurd cc

abbrev IsNumber : Sort → Type 0
IsNumber (Number w) = Unit {0}
IsNumber (Opaque k) = ⊥

-- ---- expressions of the sorts that are wanted, one for each

abbrev pub Fill : List Sort → List Expected → List ExprTree → Type 0
Fill sorts [] [] = Unit {0}
Fill sorts (operand sort ∷ ws) (e ∷ es) = IsSorted sorts false e × (sort_of sorts e ≡ sort) × Fill sorts ws es
Fill sorts (second_operand o sort ∷ ws) (e ∷ es) = IsSorted sorts false e × (sort_of sorts e ≡ sort) × IsNumber sort × Fill sorts ws es
Fill sorts ws es = ⊥

-- a node without operands makes an expression of the sort
abbrev IsLeaf : List Sort → Sort → ExprNode → Type 0
IsLeaf sorts sort n = (ws : List Expected) (es : List ExprTree) → Fill sorts ws es → Fill sorts (operand sort ∷ ws) (with_node n es)

-- a node and what is wanted after it, `n` operands among that, make the next expression
abbrev pub Follows : List Sort → Expected → List Expected → ℕ → ExprNode × List Expected → Type 0
Follows sorts w ws n x = (length x.1 ≡ n + length ws) × ((es : List ExprTree) → Fill sorts x.1 es → Fill sorts (w ∷ ws) (with_node x.0 es))

abbrev IsCall : List Sort → Sort → ℕ → ExprNode × List Sort → Type 0
IsCall sorts sort n x = (length x.1 ≡ n) × ((ws : List Expected) (es : List ExprTree) → Fill sorts (map operand x.1 ++ ws) es → Fill sorts (operand sort ∷ ws) (with_node x.0 es))

abbrev IsConversion : List Sort → Sort → ExprNode × Width → Type 0
IsConversion sorts sort x = (ws : List Expected) (es : List ExprTree) → Fill sorts (operand (Number x.1) ∷ ws) es → Fill sorts (operand sort ∷ ws) (with_node x.0 es)

abbrev IsOperator : List Sort → TokenParts → Width → ExprNode → Type 0
IsOperator sorts o w n = (ws : List Expected) (es : List ExprTree) → Fill sorts (operand (Number w) ∷ second_operand o (Number w) ∷ ws) es → Fill sorts (operand (Number w) ∷ ws) (with_node n es)

-- the nodes before, and those of expressions of the sorts that are wanted
abbrev AreNodes : List Sort → List ExprNode → List Expected → List ExprNode → Type 0
AreNodes sorts before ws out = (new : List ExprNode) × (out ≡ before ++ new) × Fill sorts ws (exprs_of new)

abbrev pub IsAt : List Sort → Sort → ExprTree → Type 0
IsAt sorts sort e = IsSorted sorts false e × (sort_of sorts e ≡ sort)

pub if_node : (P : ExprNode → Type 0) (b : Bool) (x y : ExprNode) → P x → P y → P (if b then x else y)
if_node P true x y h k = h
if_node P false x y h k = k

module _ (s : ScopeParts) (sorts : List Sort) (declared : (k : ℕ) (sort : Sort) → slice_get s.variables k ≡ Some sort → slice_get sorts k ≡ Some sort) where
  -- ---- numbers and variables

  number_leaf : (w : Width) (t : TokenParts) (o : Option ℕ) → Holds (IsLeaf sorts (Number w)) (number_of_width w t o)
  number_leaf w t None = tt
  number_leaf w t (Some n) = if_holds (IsLeaf sorts (Number w)) (nat_lt n (modulus w)) (Ok (node.Number w n)) _ (λ within ws es h. (tt, refl, h)) tt

  number_good : (sort : Sort) (t : TokenParts) → Holds (IsLeaf sorts sort) (number_in sort t)
  number_good (Opaque k) t = tt
  number_good (Number w) t = number_leaf w t (spelled_number t)

  sorted_good : (sort : Sort) (t : TokenParts) (k : ℕ) (o : Option Sort) → slice_get s.variables k ≡ o → Holds (IsLeaf sorts sort) (with_expected_sort sort t (node.Variable k) o)
  sorted_good sort t k None e = tt
  sorted_good sort t k (Some found) e =
      if_holds (IsLeaf sorts sort) (same_sort found sort) (Ok (node.Variable k)) _
      (λ same ws es h. let known : slice_get sorts k ≡ Some found = declared k found e in ((found, known), ap or_number known ∙ sorts_same found sort same, h)) tt

  variable_good : (sort : Sort) (t : TokenParts) (m : Option Meaning) → Holds (IsLeaf sorts sort) (variable_in s sort t m)
  variable_good sort t None = tt
  variable_good sort t (Some (Variable k)) = sorted_good sort t k (slice_get s.variables k) refl
  variable_good sort t (Some other) = tt

  leaf_follows : (sort : Sort) (ws : List Expected) (m : Result ExprNode TextFault) → Holds (IsLeaf sorts sort) m → Holds (Follows sorts (operand sort) ws 0) (m >>= λ n. Ok (n, ws))
  leaf_follows sort ws m h = then_holds (IsLeaf sorts sort) (Follows sorts (operand sort) ws 0) m (λ n. Ok (n, ws)) h (λ n leaf. (omega arith, λ es f. leaf ws es f))

  -- ---- calls

  arguments_good : (parameters : List Sort) (ws : List Expected) (es : List ExprTree) → Fill sorts (map operand parameters ++ ws) es → IsSorted sorts true (arguments_of (length parameters) es) × Fill sorts ws (drop (length parameters) es)
  arguments_good [] ws es h = (tt, h)
  arguments_good (p ∷ ps) ws [] h = absurd h
  arguments_good (p ∷ ps) ws (e ∷ es) h = let rest = arguments_good ps ws es h.2 in ((h.0, rest.0), rest.1)

  call_made : (sort result : Sort) (k count : ℕ) (parameters : List Sort) → (same_sort result sort && nat_eq count (length parameters)) ≡ true → IsCall sorts sort count (node.Applied k result count, parameters)
  call_made sort result k count parameters h =
      let two : (same_sort result sort ≡ true) × (nat_eq count (length parameters) ≡ true) = and_parts _ _ h in
      let counted : nat_eq count (length parameters) ≡ true = two.1 in
      let e : length parameters ≡ count = grind (arith, nat_tests) in (
        e,
        λ ws es f.
            let made = arguments_good parameters ws es f in
            (subst (λ i. IsSorted sorts true (arguments_of i es)) e made.0, sorts_same result sort two.0, subst (λ i. Fill sorts ws (drop i es)) e made.1),
      )

  application_good : (sort : Sort) (ws : List Expected) (t : TokenParts) (count k : ℕ) (o : Option FunctionParts) → Holds (Follows sorts (operand sort) ws count) (with_parameters ws (application_of sort t count k o))
  application_good sort ws t count k None = tt
  application_good sort ws t count k (Some (function_parts result parameters)) =
      then_holds (IsCall sorts sort count) (Follows sorts (operand sort) ws count) (application_of sort t count k (Some (function_parts result parameters))) (λ f. Ok (f.0, map operand f.1 ++ ws))
      (if_holds (IsCall sorts sort count) (same_sort result sort && nat_eq count (length parameters)) (Ok (node.Applied k result count, parameters)) _ (call_made sort result k count parameters) tt)
      (λ f call. (length-append (map operand f.1) ws ∙ ap (λ i. i + length ws) (length-map f.1 operand ∙ call.0), λ es h. call.1 ws es h))

  function_good : (sort : Sort) (ws : List Expected) (t : TokenParts) (count : ℕ) (m : Option Meaning) → Holds (Follows sorts (operand sort) ws count) (with_parameters ws (function_in s sort t count m))
  function_good sort ws t count None = tt
  function_good sort ws t count (Some (Function k)) = application_good sort ws t count k (slice_get s.functions k)
  function_good sort ws t count (Some other) = tt

  -- ---- conversions

  conversion_made : (v to from : Width) (signed : Bool) → Number to ≡ Number v → IsConversion sorts (Number v) (node.Converted signed from to, from)
  conversion_made v to from signed same ws [] h = absurd h
  conversion_made v to from signed same ws (e ∷ es) h = ((h.0, h.1), same, h.2)

  conversion_good : (sort : Sort) (ws : List Expected) (word : TokenParts) (o : Option (Bool × Width)) (from : Sort) → Holds (Follows sorts (operand sort) ws 1) (with_operand ws (conversion_in sort word o from))
  conversion_good (Number v) ws word (Some x) (Number from) =
      then_holds (IsConversion sorts (Number v)) (Follows sorts (operand (Number v)) ws 1) (conversion_in (Number v) word (Some x) (Number from)) (λ c. Ok (c.0, operand (Number c.1) ∷ ws))
      (if_holds (IsConversion sorts (Number v)) (same_sort (Number x.1) (Number v)) (Ok (node.Converted x.0 from x.1, from)) _ (λ same. conversion_made v x.1 from x.0 (same_widths x.1 v same)) tt)
      (λ c made. (omega arith, λ es h. made ws es h))
  conversion_good _ ws word _ _ = tt

  -- ---- operators

  plus_made : (o : TokenParts) (w : Width) → IsOperator sorts o w (node.Plus w)
  plus_made o w ws [] h = absurd h
  plus_made o w ws (e ∷ []) h = absurd h.2
  plus_made o w ws (e ∷ f ∷ es) h = ((h.0, h.2.0, h.1, h.2.1), refl, h.2.3)

  minus_made : (o : TokenParts) (w : Width) → IsOperator sorts o w (node.Minus w)
  minus_made o w ws [] h = absurd h
  minus_made o w ws (e ∷ []) h = absurd h.2
  minus_made o w ws (e ∷ f ∷ es) h = ((h.0, h.2.0, h.1, h.2.1), refl, h.2.3)

  times_made : (o : TokenParts) (w : Width) → IsOperator sorts o w (node.Times w)
  times_made o w ws [] h = absurd h
  times_made o w ws (e ∷ []) h = absurd h.2
  times_made o w ws (e ∷ f ∷ es) h = ((h.0, h.2.0, h.1, h.2.1), refl, h.2.3)

  operator_made : (o : TokenParts) (w : Width) (text : List ℕ) → IsOperator sorts o w (operator_on w text)
  operator_made o w text =
      if_node (IsOperator sorts o w) (bytes_eq text (codes "+")) (node.Plus w) (if bytes_eq text (codes "-") then node.Minus w else node.Times w) (plus_made o w)
      (if_node (IsOperator sorts o w) (bytes_eq text (codes "-")) (node.Minus w) (node.Times w) (minus_made o w) (times_made o w))

  no_operator : (o : TokenParts) (k : ℕ) (ws : List Expected) (es : List ExprTree) → Fill sorts (operand (Opaque k) ∷ second_operand o (Opaque k) ∷ ws) es → ⊥
  no_operator o k ws [] h = h
  no_operator o k ws (e ∷ []) h = h.2
  no_operator o k ws (e ∷ f ∷ es) h = h.2.2

  operation_good : (sort : Sort) (ws : List Expected) (o : TokenParts) → Follows sorts (operand sort) ws 2 (operator_in sort (bytes_of o), operand sort ∷ second_operand o sort ∷ ws)
  operation_good (Number w) ws o = (omega arith, λ es h. operator_made o w (bytes_of o) ws es h)
  operation_good (Opaque k) ws o = (omega arith, λ es h. absurd (no_operator o k ws es h))

  -- ---- nodes

  node_good : (sort : Sort) (ws : List Expected) (n : NodeSyntax) → Holds (Follows sorts (operand sort) ws (operand_count n)) (node_in s sort ws n)
  node_good sort ws (numeral t) = leaf_follows sort ws (number_in sort t) (number_good sort t)
  node_good sort ws (named t) = leaf_follows sort ws (variable_in s sort t (meaning_in s t)) (variable_good sort t (meaning_in s t))
  node_good sort ws (called t count) = function_good sort ws t count (meaning_in s t)
  node_good sort ws (converted word first) = conversion_good sort ws word (width_named (bytes_of word)) (sort_or_u64 (sort_of_first s first))
  node_good sort ws (operation o) = operation_good sort ws o

  second_filled : (o : TokenParts) (w : Width) (ws : List Expected) (es : List ExprTree) → Fill sorts (operand (Number w) ∷ ws) es → Fill sorts (second_operand o (Number w) ∷ ws) es
  second_filled o w ws [] h = absurd h
  second_filled o w ws (e ∷ es) h = (h.0, h.1, tt, h.2)

  pub next_good : (w : Expected) (ws : List Expected) (n : NodeSyntax) → Holds (Follows sorts w ws (operand_count n)) (next_node s w ws n)
  next_good (operand sort) ws n = node_good sort ws n
  next_good (second_operand o (Opaque k)) ws n = tt
  next_good (second_operand o (Number w)) ws n =
      weakened (Follows sorts (operand (Number w)) ws (operand_count n)) (Follows sorts (second_operand o (Number w)) ws (operand_count n)) (node_in s (Number w) ws n) (node_good (Number w) ws n)
      (λ x h. (h.0, λ es f. second_filled o w ws (with_node x.0 es) (h.1 es f)))

  nodes_good : (ns : ExprSyntax) (ws : List Expected) (before : List ExprNode) → ArePolish (length ws) ns → Holds (AreNodes sorts before ws) (nodes_after s before ws ns)
  nodes_good [] [] before h = ([], sym (append-nil before), tt)
  nodes_good [] (w ∷ ws) before h = absurd h
  nodes_good (n ∷ ns) [] before h = absurd h
  nodes_good (n ∷ ns) (w ∷ ws) before h =
      then_holds (Follows sorts w ws (operand_count n)) (AreNodes sorts before (w ∷ ws)) (next_node s w ws n) (λ x. nodes_after s (before ++ x.0 ∷ []) x.1 ns) (next_good w ws n)
      (λ x follows.
      weakened (AreNodes sorts (before ++ x.0 ∷ []) x.1) (AreNodes sorts before (w ∷ ws)) (nodes_after s (before ++ x.0 ∷ []) x.1 ns)
      (nodes_good ns x.1 (before ++ x.0 ∷ []) (subst (λ i. ArePolish i ns) (sym follows.0) h))
      (λ out made. (x.0 ∷ made.0, made.1 ∙ append_assoc before (x.0 ∷ []) made.0, follows.1 (exprs_of made.0) made.2)))

  one_filled : (sort : Sort) (es : List ExprTree) → Fill sorts (operand sort ∷ []) es → IsAt sorts sort (only_expr es)
  one_filled sort [] h = absurd h
  one_filled sort (e ∷ []) h = (h.0, h.1)
  one_filled sort (e ∷ f ∷ es) h = absurd h.2

  pub expression_good : (sort : Sort) (e : ExprSyntax) → ArePolish 1 e → Holds (IsAt sorts sort) (expression_of s sort e)
  expression_good sort e h =
      then_holds (AreNodes sorts [] (operand sort ∷ [])) (IsAt sorts sort) (resolved s sort e) (λ ns. Ok (expr_of ns)) (nodes_good e (operand sort ∷ []) [] h)
      (λ out made. subst (λ ns. IsAt sorts sort (expr_of ns)) (sym made.1) (one_filled sort (exprs_of made.0) made.2))
