-- The names in an expression are the variables that it reads, and those in equations what they give and read.
use Rattle.std.proofs.Common.{◌≡◌, ◌≤◌, ℕ, ◌+◌, List, [], ◌∷◌, ◌++◌, length, append_assoc, Bool, true, false, ◌&&◌, ◌||◌, if◌then◌else◌, nat_eq, nat_lt, Option, Some, None, Result, Ok, slice_get, codes, refl, sym, ◌∙◌, ap, subst, arith}
use Rattle.std.specs.Str.{bytes_eq}
use Rattle.std.specs.List.{list_any}
use Rattle.std.proofs.lemmas.List.{append-nil}
use Rattle.std.proofs.lemmas.List.Folds.{list_any-append}
use Rattle.std.proofs.Math.Bool.{or-false, or_assoc, and-false, and-or_distrib_left}
use Rattle.kat_model.specs.Stores.{modulus}
use Rattle.kat_model.specs.declared.expression.Width.{Width}
use Rattle.kat_model.specs.declared.expression.Width.TheVariants.{W64}
use Rattle.text_parser.specs.declared.fault.TextFault.{TextFault}
use Rattle.text_parser.specs.TokenParts.{TokenParts, bytes_of}
use Rattle.text_parser.specs.Parsed.{◌>>=◌}
use Rattle.flow_model.specs.declared.sort.Sort.{Sort}
use Rattle.flow_model.specs.declared.sort.Sort.TheVariants.{Number, Opaque}
use Rattle.flow_model.specs.declared.graph.ExprNode.{ExprNode}
use Rattle.flow_model.specs.declared.graph.ExprNode.TheVariants as node
use Rattle.flow_model.specs.Expressions.{ExprTree}
use Rattle.flow_model.specs.Polish.{with_node, exprs_of}
use Rattle.flow_model.specs.Matches.{Equation}
use Rattle.flow_ways.specs.Liveness.{reads, any_reads}
use Rattle.flow_pieces.specs.Matches.{gives, equations_read}
use Rattle.flow_syntax.specs.Syntax.{NodeSyntax, numeral, named, called, converted, operation, ExprSyntax, EquationSyntax, equation}
use Rattle.flow_syntax.specs.Terminals.{spelled_number}
use Rattle.flow_syntax.proofs.WholeSyntax.{operand_count, ArePolish, AreWholeEquations}
use Rattle.flow_text.specs.declared.meaning.Meaning.{Meaning}
use Rattle.flow_text.specs.declared.meaning.Meaning.TheVariants.{SortName, Function, Variable, GraphName}
use Rattle.flow_text.specs.declared.match_names.MatchPart.{MatchPart}
use Rattle.flow_text.specs.Matches.{MatchName}
use Rattle.flow_text.specs.MatchNames.{names_meant, names_of_token, names_of_node, names_of_expression, names_of_equation, names_of_equations}
use Rattle.flow_text.specs.Trees.{expr_of}
use Rattle.flow_text.specs.Scopes.{FunctionParts, function_parts, ScopeParts, meaning_in, width_named, same_sort}
use Rattle.flow_text.specs.Resolving.{Expected, operand, second_operand, sort_or_u64, sort_of_first, number_of_width, number_in, with_expected_sort, variable_in, application_of, function_in, conversion_in, operator_on, operator_in, with_parameters, with_operand, node_in, next_node, nodes_after, resolved, expression_of}
use Rattle.flow_text.specs.Checking.{target_of, target_meant, next_target, is_given_by, equation_for, next_equation, equations_after}
use Rattle.flow_laws.specs.MatchNames.{is_same_part, is_set_in, is_read_in}
use Rattle.flow_laws.proofs.Holding.{Holds, then_holds, if_holds, weakened, both_hold}
use Rattle.flow_laws.proofs.SortedNodes.{if_node, Follows, next_good}
use Rattle.flow_laws.proofs.TreeReads.{operands, is_variable, node_reads, node_size, only_expr_reads}

gives_more : (es : List Equation) (e : Equation) (x : ℕ) → gives (es ++ e ∷ []) x ≡ (gives es x || nat_eq e.variable x)
gives_more [] e x = or-false (nat_eq e.variable x)
gives_more (f ∷ es) e x = ap (λ b. nat_eq f.variable x || b) (gives_more es e x) ∙ sym (or_assoc (nat_eq f.variable x) (gives es x) (nat_eq e.variable x))

reads_more : (es : List Equation) (e : Equation) (x : ℕ) → equations_read (es ++ e ∷ []) x ≡ (equations_read es x || reads x e.expression)
reads_more [] e x = or-false (reads x e.expression)
reads_more (f ∷ es) e x = ap (λ b. reads x f.expression || b) (reads_more es e x) ∙ sym (or_assoc (reads x f.expression) (equations_read es x) (reads x e.expression))

or_moved : (b g v a r : Bool) → (b && v) ≡ a → ((b && (g || v)) || r) ≡ ((b && g) || (a || r))
or_moved b g v a r e = ap (λ c. c || r) (and-or_distrib_left b g v) ∙ or_assoc (b && g) (b && v) r ∙ ap (λ c. (b && g) || (c || r)) e

-- ---- names in the part `q`, tested for names of variable x in the part `p`: `here` is whether the parts are the same

module _ (s : ScopeParts) (p q : MatchPart) (x : ℕ) where
  abbrev pub here : Bool
  here = is_same_part q p

  abbrev pub some_set : List MatchName → Bool
  some_set ns = list_any (is_set_in p x) ns

  abbrev pub some_read : List MatchName → Bool
  some_read ns = list_any (is_read_in p x) ns

  -- ---- expressions set nothing

  none_meant : (t : TokenParts) (m : Option Meaning) → some_set (names_meant q false t m) ≡ false
  none_meant t None = refl
  none_meant t (Some (Variable k)) = refl
  none_meant t (Some (SortName k)) = refl
  none_meant t (Some (Function k)) = refl
  none_meant t (Some (GraphName k)) = refl

  none_at : (n : NodeSyntax) → some_set (names_of_node s q n) ≡ false
  none_at (numeral t) = refl
  none_at (named t) = none_meant t (meaning_in s t)
  none_at (called t count) = refl
  none_at (converted word first) = refl
  none_at (operation o) = refl

  pub none_set : (ns : ExprSyntax) → some_set (names_of_expression s q ns) ≡ false
  none_set [] = refl
  none_set (n ∷ ns) =
      list_any-append (is_set_in p x) (names_of_node s q n) (names_of_expression s q ns) ∙ ap (λ b. b || some_set (names_of_expression s q ns)) (none_at n) ∙ none_set ns

  -- ---- nodes

  -- a node with this number of operands, which is the variable if the names read it
  abbrev Becomes : ℕ → List MatchName → ExprNode → Type 0
  Becomes count names n = (operands n ≡ count) × ((here && is_variable x n) ≡ some_read names)

  abbrev IsNext : NodeSyntax → ExprNode × List Expected → Type 0
  IsNext n y = Becomes (operand_count n) (names_of_node s q n) y.0

  number_read : (w : Width) (t : TokenParts) (o : Option ℕ) → Holds (Becomes 0 []) (number_of_width w t o)
  number_read w t None = tt
  number_read w t (Some n) = if_holds (Becomes 0 []) (nat_lt n (modulus w)) (Ok (node.Number w n)) _ (λ within. (refl, and-false here)) tt

  number_at : (sort : Sort) (t : TokenParts) → Holds (Becomes 0 []) (number_in sort t)
  number_at (Opaque k) t = tt
  number_at (Number w) t = number_read w t (spelled_number t)

  variable_sorted : (sort : Sort) (t : TokenParts) (k : ℕ) (o : Option Sort) → Holds (Becomes 0 (names_meant q false t (Some (Variable k)))) (with_expected_sort sort t (node.Variable k) o)
  variable_sorted sort t k None = tt
  variable_sorted sort t k (Some found) =
      if_holds (Becomes 0 (names_meant q false t (Some (Variable k)))) (same_sort found sort) (Ok (node.Variable k)) _ (λ same. (refl, sym (or-false (here && nat_eq k x)))) tt

  variable_read : (sort : Sort) (t : TokenParts) (m : Option Meaning) → Holds (Becomes 0 (names_meant q false t m)) (variable_in s sort t m)
  variable_read sort t None = tt
  variable_read sort t (Some (Variable k)) = variable_sorted sort t k (slice_get s.variables k)
  variable_read sort t (Some other) = tt

  leaf_read : (names : List MatchName) (ws : List Expected) (m : Result ExprNode TextFault) → Holds (Becomes 0 names) m → Holds (λ (y : ExprNode × List Expected). Becomes 0 names y.0) (m >>= λ n. Ok (n, ws))
  leaf_read names ws m h = then_holds (Becomes 0 names) (λ (y : ExprNode × List Expected). Becomes 0 names y.0) m (λ n. Ok (n, ws)) h (λ n b. b)

  application_read : (sort : Sort) (ws : List Expected) (t : TokenParts) (count k : ℕ) (o : Option FunctionParts) → Holds (IsNext (called t count)) (with_parameters ws (application_of sort t count k o))
  application_read sort ws t count k None = tt
  application_read sort ws t count k (Some (function_parts result parameters)) =
      then_holds (λ (f : ExprNode × List Sort). Becomes count [] f.0) (IsNext (called t count)) (application_of sort t count k (Some (function_parts result parameters))) _
      (if_holds (λ (f : ExprNode × List Sort). Becomes count [] f.0) (same_sort result sort && nat_eq count (length parameters)) (Ok (node.Applied k result count, parameters)) _ (λ same. (refl, and-false here)) tt)
      (λ f b. b)

  function_read : (sort : Sort) (ws : List Expected) (t : TokenParts) (count : ℕ) (m : Option Meaning) → Holds (IsNext (called t count)) (with_parameters ws (function_in s sort t count m))
  function_read sort ws t count None = tt
  function_read sort ws t count (Some (Function k)) = application_read sort ws t count k (slice_get s.functions k)
  function_read sort ws t count (Some other) = tt

  conversion_read : (sort : Sort) (ws : List Expected) (word : TokenParts) (o : Option (Bool × Width)) (from : Sort) → Holds (λ (y : ExprNode × List Expected). Becomes 1 [] y.0) (with_operand ws (conversion_in sort word o from))
  conversion_read (Number v) ws word (Some w) (Number from) =
      then_holds (λ (c : ExprNode × Width). Becomes 1 [] c.0) (λ (y : ExprNode × List Expected). Becomes 1 [] y.0) (conversion_in (Number v) word (Some w) (Number from)) _
      (if_holds (λ (c : ExprNode × Width). Becomes 1 [] c.0) (same_sort (Number w.1) (Number v)) (Ok (node.Converted w.0 from w.1, from)) _ (λ same. (refl, and-false here)) tt)
      (λ c b. b)
  conversion_read _ ws word _ _ = tt

  operator_read : (w : Width) (text : List ℕ) → Becomes 2 [] (operator_on w text)
  operator_read w text =
      if_node (Becomes 2 []) (bytes_eq text (codes "+")) (node.Plus w) (if bytes_eq text (codes "-") then node.Minus w else node.Times w) (refl, and-false here)
      (if_node (Becomes 2 []) (bytes_eq text (codes "-")) (node.Minus w) (node.Times w) (refl, and-false here) (refl, and-false here))

  operation_read : (sort : Sort) (o : TokenParts) → Becomes 2 [] (operator_in sort (bytes_of o))
  operation_read (Number w) o = operator_read w (bytes_of o)
  operation_read (Opaque k) o = operator_read W64 (bytes_of o)

  node_read : (sort : Sort) (ws : List Expected) (n : NodeSyntax) → Holds (IsNext n) (node_in s sort ws n)
  node_read sort ws (numeral t) = leaf_read [] ws (number_in sort t) (number_at sort t)
  node_read sort ws (named t) = leaf_read (names_of_token s q false t) ws (variable_in s sort t (meaning_in s t)) (variable_read sort t (meaning_in s t))
  node_read sort ws (called t count) = function_read sort ws t count (meaning_in s t)
  node_read sort ws (converted word first) = conversion_read sort ws word (width_named (bytes_of word)) (sort_or_u64 (sort_of_first s first))
  node_read sort ws (operation o) = operation_read sort o

  next_read : (w : Expected) (ws : List Expected) (n : NodeSyntax) → Holds (IsNext n) (next_node s w ws n)
  next_read (operand sort) ws n = node_read sort ws n
  next_read (second_operand o (Opaque k)) ws n = tt
  next_read (second_operand o (Number w)) ws n = node_read (Number w) ws n

  -- ---- expressions

  -- the nodes before, and those of an expression for each operand that is wanted, which read what the names read
  abbrev AreRead : List ExprNode → List Expected → List MatchName → List ExprNode → Type 0
  AreRead before ws names out =
      (new : List ExprNode) × (out ≡ before ++ new) × (length (exprs_of new) ≡ length ws) × ((here && any_reads x (exprs_of new)) ≡ some_read names)

  more_read : (n : NodeSyntax) (ns : ExprSyntax) (y : ExprNode) (es : List ExprTree) → operands y ≤ length es → (here && is_variable x y) ≡ some_read (names_of_node s q n) → (here && any_reads x es) ≡ some_read (names_of_expression s q ns) → (here && any_reads x (with_node y es)) ≡ some_read (names_of_expression s q (n ∷ ns))
  more_read n ns y es long e f =
      ap (λ b. here && b) (node_reads x y es long) ∙ and-or_distrib_left here (is_variable x y) (any_reads x es)
      ∙ ap (λ b. b || (here && any_reads x es)) e ∙ ap (λ b. some_read (names_of_node s q n) || b) f
      ∙ sym (list_any-append (is_read_in p x) (names_of_node s q n) (names_of_expression s q ns))

  nodes_read : (ns : ExprSyntax) (ws : List Expected) (before : List ExprNode) → ArePolish (length ws) ns → Holds (AreRead before ws (names_of_expression s q ns)) (nodes_after s before ws ns)
  nodes_read [] [] before h = ([], sym (append-nil before), refl, and-false here)
  nodes_read [] (w ∷ ws) before h = absurd h
  nodes_read (n ∷ ns) [] before h = absurd h
  nodes_read (n ∷ ns) (w ∷ ws) before h =
      then_holds (λ (y : ExprNode × List Expected). Follows s.variables w ws (operand_count n) y × IsNext n y) (AreRead before (w ∷ ws) (names_of_expression s q (n ∷ ns))) (next_node s w ws n) (λ y. nodes_after s (before ++ y.0 ∷ []) y.1 ns)
      (both_hold (Follows s.variables w ws (operand_count n)) (IsNext n) (next_node s w ws n) (next_good s s.variables (λ k sort e. e) w ws n) (next_read w ws n))
      (λ y b.
      weakened (AreRead (before ++ y.0 ∷ []) y.1 (names_of_expression s q ns)) (AreRead before (w ∷ ws) (names_of_expression s q (n ∷ ns))) (nodes_after s (before ++ y.0 ∷ []) y.1 ns)
      (nodes_read ns y.1 (before ++ y.0 ∷ []) (subst (λ i. ArePolish i ns) (sym b.0.0) h))
      (λ out made.
      let follows : length y.1 ≡ operand_count n + length ws = b.0.0 in
      let count : operands y.0 ≡ operand_count n = b.1.0 in
      let size : length (exprs_of made.0) ≡ operands y.0 + length ws = omega (arith, follows, count, made.2) in (
        y.0 ∷ made.0,
        made.1 ∙ append_assoc before (y.0 ∷ []) made.0,
        node_size y.0 (exprs_of made.0) (length ws) size,
        more_read n ns y.0 (exprs_of made.0) (omega (arith, size)) b.1.1 made.3,
      )))

  abbrev pub IsReadAs : List MatchName → ExprTree → Type 0
  IsReadAs names e = (here && reads x e) ≡ some_read names

  pub expression_read : (sort : Sort) (e : ExprSyntax) → ArePolish 1 e → Holds (IsReadAs (names_of_expression s q e)) (expression_of s sort e)
  expression_read sort e h =
      then_holds (AreRead [] (operand sort ∷ []) (names_of_expression s q e)) (IsReadAs (names_of_expression s q e)) (resolved s sort e) (λ ns. Ok (expr_of ns)) (nodes_read e (operand sort ∷ []) [] h)
      (λ out made.
      subst (λ ns. IsReadAs (names_of_expression s q e) (expr_of ns)) (sym made.1)
      (ap (λ b. here && b) (sym (only_expr_reads x (exprs_of made.0) made.2)) ∙ made.3))

  -- ---- equations

  -- the names of the variable that is set
  abbrev IsSetAs : List MatchName → ℕ → Type 0
  IsSetAs names k = ((here && nat_eq k x) ≡ some_set names) × (false ≡ some_read names)

  target_sorted : (t : TokenParts) (k : ℕ) (o : Option Sort) → Holds (λ (v : ℕ × Sort). IsSetAs (names_meant q true t (Some (Variable k))) v.0) (target_of [] t k o)
  target_sorted t k None = tt
  target_sorted t k (Some sort) = (sym (or-false (here && nat_eq k x)), refl)

  target_set : (t : TokenParts) (m : Option Meaning) → Holds (λ (v : ℕ × Sort). IsSetAs (names_meant q true t m) v.0) (target_meant s [] t m)
  target_set t None = tt
  target_set t (Some (Variable k)) = target_sorted t k (slice_get s.variables k)
  target_set t (Some other) = tt

  abbrev IsEquation : List MatchName → Equation → Type 0
  IsEquation names e = ((here && nat_eq e.variable x) ≡ some_set names) × ((here && reads x e.expression) ≡ some_read names)

  value_named : (before : List Equation) (y : TokenParts) (e : ExprSyntax) (v : ℕ × Sort) → ArePolish 1 e → IsSetAs (names_of_token s q true y) v.0 → Holds (IsEquation (names_of_equation s q (equation y e))) (equation_for s before y e v)
  value_named before y e v h a =
      let target = names_of_token s q true y in
      let names = names_of_expression s q e in
      if_holds (IsEquation (target ++ names)) (is_given_by before v.0) _ (expression_of s v.1 e >>= λ w. Ok (record { variable = v.0; expression = w })) (λ again. tt)
      (then_holds (IsReadAs names) (IsEquation (target ++ names)) (expression_of s v.1 e) (λ w. Ok (record { variable = v.0; expression = w })) (expression_read v.1 e h) (λ w b. (
        a.0 ∙ sym (or-false (some_set target)) ∙ ap (λ c. some_set target || c) (sym (none_set e)) ∙ sym (list_any-append (is_set_in p x) target names),
        b ∙ ap (λ c. c || some_read names) a.1 ∙ sym (list_any-append (is_read_in p x) target names),
      )))

  equation_named : (before : List Equation) (y : TokenParts) (e : ExprSyntax) → ArePolish 1 e → Holds (IsEquation (names_of_equation s q (equation y e))) (next_equation s before (equation y e))
  equation_named before y e h =
      then_holds (λ (v : ℕ × Sort). IsSetAs (names_of_token s q true y) v.0) (IsEquation (names_of_equation s q (equation y e))) (next_target s [] y) (equation_for s before y e) (target_set y (meaning_in s y)) (λ v a.
      value_named before y e v h a)

  -- the equations before, and others that give and read what the names set and read
  abbrev pub AreEquations : List Equation → List MatchName → List Equation → Type 0
  AreEquations before names out =
      ((here && gives out x) ≡ ((here && gives before x) || some_set names)) × ((here && equations_read out x) ≡ ((here && equations_read before x) || some_read names))

  pub equations_named : (qs : List EquationSyntax) (before : List Equation) → AreWholeEquations qs → Holds (AreEquations before (names_of_equations s q qs)) (equations_after s before qs)
  equations_named [] before h = (sym (or-false (here && gives before x)), sym (or-false (here && equations_read before x)))
  equations_named (equation y e ∷ qs) before h =
      let one = names_of_equation s q (equation y e) in
      let rest = names_of_equations s q qs in
      then_holds (IsEquation one) (AreEquations before (one ++ rest)) (next_equation s before (equation y e)) (λ v. equations_after s (before ++ v ∷ []) qs) (equation_named before y e h.0) (λ v a.
      weakened (AreEquations (before ++ v ∷ []) rest) (AreEquations before (one ++ rest)) (equations_after s (before ++ v ∷ []) qs) (equations_named qs (before ++ v ∷ []) h.1) (λ out b. (
        b.0 ∙ ap (λ c. (here && c) || some_set rest) (gives_more before v x) ∙ or_moved here (gives before x) (nat_eq v.variable x) (some_set one) (some_set rest) a.0
            ∙ ap (λ c. (here && gives before x) || c) (sym (list_any-append (is_set_in p x) one rest)),
        b.1 ∙ ap (λ c. (here && c) || some_read rest) (reads_more before v x) ∙ or_moved here (equations_read before x) (reads x v.expression) (some_read one) (some_read rest) a.1
            ∙ ap (λ c. (here && equations_read before x) || c) (sym (list_any-append (is_read_in p x) one rest)),
      )))
