-- Expressions of a plain text are resolved to their trees.
use Rattle.std.proofs.Common.{◌≡◌, ◌≤◌, ◌<◌, ◌+◌, ◌^◌, ℕ, suc, List, [], ◌∷◌, ◌++◌, length, map, drop, Bool, true, false, Option, Some, None, Result, Ok, slice_get, refl, sym, ap, ◌∙◌, subst, append_assoc, arith}
use Rattle.std.proofs.lemmas.List.{append-nil}
use Rattle.std.proofs.lemmas.Bool.{lt-ltb, eq-eqb}
use Rattle.std.proofs.lemmas.Option.{slice_get_within}
use Rattle.std.specs.Prelude.{codes}
use Rattle.kat_model.specs.declared.expression.Width.{Width}
use Rattle.kat_model.specs.declared.expression.Width.TheVariants.{W8, W16, W32, W64}
use Rattle.kat_model.specs.Stores.{modulus}
use Rattle.text_parser.specs.declared.fault.TextFault.{TextFault}
use Rattle.text_parser.specs.declared.token.Kind.TheVariants.{Name, Symbol}
use Rattle.text_parser.specs.TokenParts.{TokenParts, token_parts}
use Rattle.text_parser.specs.Parsed.{◌>>=◌}
use Rattle.flow_model.specs.declared.sort.Sort.{Sort}
use Rattle.flow_model.specs.declared.sort.Sort.TheVariants.{Number as NumberSort, Opaque}
use Rattle.flow_model.specs.declared.graph.ExprNode.{ExprNode}
use Rattle.flow_model.specs.declared.graph.ExprNode.TheVariants as node
use Rattle.flow_model.specs.Expressions.{ExprTree, number, variable, plus, minus, times, converted, applied, no_arguments, argument}
use Rattle.flow_model.specs.Polish.{arguments_of, with_node, exprs_of}
use Rattle.flow_syntax.specs.Syntax.{FirstSyntax, no_name, a_name, a_conversion, ExprSyntax}
use Rattle.flow_syntax.specs.Actions.{first_of, first_name, name_of}
use Rattle.flow_text.specs.declared.meaning.Meaning.TheVariants.{Function, Variable}
use Rattle.flow_text.specs.Trees.{only_expr}
use Rattle.flow_text.specs.Scopes.{function_parts, ScopeParts, meaning_in, width_named, same_sort}
use Rattle.flow_text.specs.Resolving.{Expected, operand, second_operand, sort_of_first, sort_or_u64, nodes_after, expression_of}
use Rattle.flow_text.specs.Checking.{first_sort}
use Rattle.flow_plain.specs.PlainGraphs.{Declared, conversion_text, variable_name, function_name}
use Rattle.flow_plain.specs.PrintableGraphs.{Wanted, one_of, all_of, shown_sort, HasSorts}
use Rattle.flow_plain.proofs.PlainWords.{number_spelled}
use Rattle.flow_plain.proofs.PlainPieces.{comma_end, expr_end, arguments_count, expr_syntax}
use Rattle.flow_plain.proofs.ExprReads.{modulus_small, apart_wants, wants_apart}

-- ---- trees in Polish notation

abbrev pub expr_nodes : ExprTree → List ExprNode
expr_nodes (number w n) = node.Number w n ∷ []
expr_nodes (variable k) = node.Variable k ∷ []
expr_nodes (plus w e f) = node.Plus w ∷ (expr_nodes e ++ expr_nodes f)
expr_nodes (minus w e f) = node.Minus w ∷ (expr_nodes e ++ expr_nodes f)
expr_nodes (times w e f) = node.Times w ∷ (expr_nodes e ++ expr_nodes f)
expr_nodes (converted signed from to e) = node.Converted signed from to ∷ expr_nodes e
expr_nodes (applied f result args) = node.Applied f result (arguments_count args) ∷ expr_nodes args
expr_nodes no_arguments = []
expr_nodes (argument e rest) = expr_nodes e ++ expr_nodes rest

-- an expression is the first tree of its nodes, and arguments are the first ones of theirs
abbrev IsBack : Wanted → ExprTree → Type 0
IsBack (one_of s) e = (ns : List ExprNode) → exprs_of (expr_nodes e ++ ns) ≡ e ∷ exprs_of ns
IsBack (all_of ss) e = (ns : List ExprNode) → (arguments_of (arguments_count e) (exprs_of (expr_nodes e ++ ns)) ≡ e) × (drop (arguments_count e) (exprs_of (expr_nodes e ++ ns)) ≡ exprs_of ns)

two_back : (n : ExprNode) (e f : ExprTree) (ns : List ExprNode) → exprs_of (expr_nodes e ++ (expr_nodes f ++ ns)) ≡ e ∷ exprs_of (expr_nodes f ++ ns) → exprs_of (expr_nodes f ++ ns) ≡ f ∷ exprs_of ns → with_node n (exprs_of ((expr_nodes e ++ expr_nodes f) ++ ns)) ≡ with_node n (e ∷ f ∷ exprs_of ns)
two_back n e f ns left right =
    ap (λ (l : List ExprNode). with_node n (exprs_of l)) (append_assoc (expr_nodes e) (expr_nodes f) ns) ∙ ap (with_node n) left
    ∙ ap (λ (es : List ExprTree). with_node n (e ∷ es)) right

module _ (d : Declared) (sorts : List Sort) where
  back : (e : ExprTree) (w : Wanted) → HasSorts d sorts w e → IsBack w e
  back (number v n) w h = subst (λ (u : Wanted). IsBack u (number v n)) (sym h.0) (λ ns. refl)
  back (variable k) w h = subst (λ (u : Wanted). IsBack u (variable k)) (sym h.1) (λ ns. refl)
  back (plus v e f) w h =
      let left = back e (one_of (NumberSort v)) (subst (λ (u : Wanted). HasSorts d sorts u e) h.0 h.1) in
      let right = back f (one_of (NumberSort v)) (subst (λ (u : Wanted). HasSorts d sorts u f) h.0 h.2) in
      subst (λ (u : Wanted). IsBack u (plus v e f)) (sym h.0) (λ ns. two_back (node.Plus v) e f ns (left (expr_nodes f ++ ns)) (right ns))
  back (minus v e f) w h =
      let left = back e (one_of (NumberSort v)) (subst (λ (u : Wanted). HasSorts d sorts u e) h.0 h.1) in
      let right = back f (one_of (NumberSort v)) (subst (λ (u : Wanted). HasSorts d sorts u f) h.0 h.2) in
      subst (λ (u : Wanted). IsBack u (minus v e f)) (sym h.0) (λ ns. two_back (node.Minus v) e f ns (left (expr_nodes f ++ ns)) (right ns))
  back (times v e f) w h =
      let left = back e (one_of (NumberSort v)) (subst (λ (u : Wanted). HasSorts d sorts u e) h.0 h.1) in
      let right = back f (one_of (NumberSort v)) (subst (λ (u : Wanted). HasSorts d sorts u f) h.0 h.2) in
      subst (λ (u : Wanted). IsBack u (times v e f)) (sym h.0) (λ ns. two_back (node.Times v) e f ns (left (expr_nodes f ++ ns)) (right ns))
  back (converted signed from to e) w h =
      let inner = back e (one_of (NumberSort from)) h.1 in
      subst (λ (u : Wanted). IsBack u (converted signed from to e)) (sym h.0) (λ ns. ap (with_node (node.Converted signed from to)) (inner ns))
  back (applied f result args) w h =
      let inner = back args (all_of h.0) h.3 in
      subst (λ (u : Wanted). IsBack u (applied f result args)) (sym h.1)
      (λ ns. ap (λ (a : ExprTree). applied f result a ∷ drop (arguments_count args) (exprs_of (expr_nodes args ++ ns))) (inner ns).0 ∙ ap (λ (es : List ExprTree). applied f result args ∷ es) (inner ns).1)
  back no_arguments w h = subst (λ (u : Wanted). IsBack u no_arguments) (sym h) (λ ns. (refl, refl))
  back (argument e rest) w h =
      let first = back e (one_of h.0) h.3 in
      let others = back rest (all_of h.1) h.4 in
      subst (λ (u : Wanted). IsBack u (argument e rest)) (sym h.2)
      (λ ns.
      let is : exprs_of ((expr_nodes e ++ expr_nodes rest) ++ ns) ≡ e ∷ exprs_of (expr_nodes rest ++ ns) = ap exprs_of (append_assoc (expr_nodes e) (expr_nodes rest) ns) ∙ first (expr_nodes rest ++ ns) in
      let more = others ns in
      (ap (arguments_of (suc (arguments_count rest))) is ∙ ap (argument e) more.0, ap (drop (suc (arguments_count rest))) is ∙ more.1))

  pub one_back : (e : ExprTree) (s : Sort) → HasSorts d sorts (one_of s) e → only_expr (exprs_of (expr_nodes e)) ≡ e
  one_back e s h = ap (λ (l : List ExprNode). only_expr (exprs_of l)) (sym (append-nil (expr_nodes e))) ∙ ap only_expr (back e (one_of s) h [])

  abbrev wanted_sorts : Wanted → List Sort
  wanted_sorts (one_of s) = []
  wanted_sorts (all_of ss) = ss

  arguments_many : (e : ExprTree) (ss : List Sort) → HasSorts d sorts (all_of ss) e → arguments_count e ≡ length ss
  arguments_many no_arguments ss h = sym (ap (λ (w : Wanted). length (wanted_sorts w)) h)
  arguments_many (argument e rest) ss h = ap suc (arguments_many rest h.1 h.4) ∙ sym (ap (λ (w : Wanted). length (wanted_sorts w)) h.2)
  arguments_many (number v n) ss h = wants_apart _ ss h.0
  arguments_many (variable k) ss h = wants_apart _ ss h.1
  arguments_many (plus v e f) ss h = wants_apart _ ss h.0
  arguments_many (minus v e f) ss h = wants_apart _ ss h.0
  arguments_many (times v e f) ss h = wants_apart _ ss h.0
  arguments_many (converted signed from to e) ss h = wants_apart _ ss h.0
  arguments_many (applied f result args) ss h = wants_apart _ ss h.1

-- ---- names in a scope

-- the scope has these variables and functions by their plain names
pub record IsScope (d : Declared) (sorts : List Sort) (s : ScopeParts) : Type 0 where
  pub variables : s.variables ≡ sorts
  pub functions : s.functions ≡ d.functions
  pub variable_meant : (k at : ℕ) → k < length sorts → meaning_in s (token_parts Name at (variable_name k)) ≡ Some (Variable k)
  pub function_meant : (k at : ℕ) → k < length d.functions → meaning_in s (token_parts Name at (function_name k)) ≡ Some (Function k)

pub same_sorts : (s : Sort) → same_sort s s ≡ true
same_sorts (NumberSort W8) = refl
same_sorts (NumberSort W16) = refl
same_sorts (NumberSort W32) = refl
same_sorts (NumberSort W64) = refl
same_sorts (Opaque k) = eq-eqb k k refl

width_read : (signed : Bool) (w : Width) → width_named (conversion_text signed w) ≡ Some (signed, w)
width_read false W8 = refl
width_read false W16 = refl
width_read false W32 = refl
width_read false W64 = refl
width_read true W8 = refl
width_read true W16 = refl
width_read true W32 = refl
width_read true W64 = refl

module _ (d : Declared) (sorts : List Sort) (few : length sorts ≤ 2 ^ 64) (small : length d.functions ≤ 2 ^ 64) (s : ScopeParts) (scope : IsScope d sorts s) where
  -- ---- the sort that an expression shows

  pub data Shows : FirstSyntax → Option Sort → Type 0 where
    shows_none : Shows no_name None
    shows_one : (x : FirstSyntax) (sort : Sort) → sort_of_first s x ≡ Some sort → Shows x (Some sort)

  pub shown_is : (x : FirstSyntax) (o : Option Sort) → Shows x o → sort_of_first s x ≡ o
  shown_is x o shows_none = refl
  shown_is x o (shows_one y sort e) = e

  pub first_shows : (x y : FirstSyntax) (o p : Option Sort) → Shows x o → Shows y p → Shows (first_of x y) (first_sort o p)
  first_shows x y o p shows_none q = q
  first_shows x y o p (shows_one no_name sort e) q = absurd cc
  first_shows x y o p (shows_one (a_name t) sort e) q = shows_one (a_name t) sort e
  first_shows x y o p (shows_one (a_conversion t) sort e) q = shows_one (a_conversion t) sort e

  first_joined : (x y : ExprSyntax) → first_name (x ++ y) ≡ first_of (first_name x) (first_name y)
  first_joined [] y = refl
  first_joined (n ∷ ns) y = ap (first_of (name_of n)) (first_joined ns y) ∙ first_associates (name_of n) (first_name ns) (first_name y) where
    first_associates : (a b c : FirstSyntax) → first_of a (first_of b c) ≡ first_of (first_of a b) c
    first_associates no_name b c = refl
    first_associates (a_name t) b c = refl
    first_associates (a_conversion t) b c = refl

  two_show : (e f : ExprTree) (x y : ExprSyntax) → Shows (first_name x) (shown_sort sorts e) → Shows (first_name y) (shown_sort sorts f) → Shows (first_name (x ++ y)) (first_sort (shown_sort sorts e) (shown_sort sorts f))
  two_show e f x y left right = subst (λ (z : FirstSyntax). Shows z (first_sort (shown_sort sorts e) (shown_sort sorts f))) (sym (first_joined x y)) (first_shows (first_name x) (first_name y) (shown_sort sorts e) (shown_sort sorts f) left right)

  variable_sort : (k at : ℕ) (sort : Sort) → slice_get sorts k ≡ Some sort → sort_of_first s (a_name (token_parts Name at (variable_name k))) ≡ Some sort
  variable_sort k at sort e = rw (scope.variable_meant k at (slice_get_within sorts k sort e)) (ap (λ l. slice_get l k) scope.variables ∙ e)

  function_sort : (k at : ℕ) (result : Sort) (ps : List Sort) → slice_get d.functions k ≡ Some (function_parts result ps) → sort_of_first s (a_name (token_parts Name at (function_name k))) ≡ Some result
  function_sort k at result ps e = rw (scope.function_meant k at (slice_get_within d.functions k (function_parts result ps) e), scope.functions, e) refl

  pub shows : (e : ExprTree) (sort : Sort) (at : ℕ) → HasSorts d sorts (one_of sort) e → Shows (first_name (expr_syntax e at)) (shown_sort sorts e)
  shows (number v n) sort at h = shows_none
  shows (variable k) sort at h = subst (Shows (a_name (token_parts Name at (variable_name k)))) (sym h.2) (shows_one _ h.0 (variable_sort k at h.0 h.2))
  shows (plus v e f) sort at h = two_show e f (expr_syntax e (at + 1)) (expr_syntax f (expr_end e (at + 1) + 1 + 1 + 1)) (shows e sort (at + 1) h.1) (shows f sort (expr_end e (at + 1) + 1 + 1 + 1) h.2)
  shows (minus v e f) sort at h = two_show e f (expr_syntax e (at + 1)) (expr_syntax f (expr_end e (at + 1) + 1 + 1 + 1)) (shows e sort (at + 1) h.1) (shows f sort (expr_end e (at + 1) + 1 + 1 + 1) h.2)
  shows (times v e f) sort at h = two_show e f (expr_syntax e (at + 1)) (expr_syntax f (expr_end e (at + 1) + 1 + 1 + 1)) (shows e sort (at + 1) h.1) (shows f sort (expr_end e (at + 1) + 1 + 1 + 1) h.2)
  shows (converted signed from to e) sort at h = shows_one _ (NumberSort to) (rw (width_read signed to) refl)
  shows (applied f result args) sort at h = shows_one _ result (function_sort f at result h.0 h.2)
  shows no_arguments sort at h = apart_wants sort [] h
  shows (argument e rest) sort at h = apart_wants sort (h.0 ∷ h.1) h.2

  -- ---- nodes

  abbrev wanted : Wanted → List Expected
  wanted (one_of sort) = operand sort ∷ []
  wanted (all_of ss) = map operand ss

  -- the nodes of the tree are found where it is wanted
  abbrev Resolves : Wanted → ExprTree → Type 0
  Resolves w e =
      (at : ℕ) (before : List ExprNode) (ws : List Expected) (rest : ExprSyntax) → nodes_after s before (wanted w ++ ws) (expr_syntax e at ++ rest) ≡ nodes_after s (before ++ expr_nodes e) ws rest

  as_operand : (before : List ExprNode) (o : TokenParts) (v : Width) (ws : List Expected) (ns : ExprSyntax) → nodes_after s before (second_operand o (NumberSort v) ∷ ws) ns ≡ nodes_after s before (operand (NumberSort v) ∷ ws) ns
  as_operand before o v ws [] = refl
  as_operand before o v ws (n ∷ ns) = refl

  number_resolves : (v : Width) (n : ℕ) → n < modulus v → Resolves (one_of (NumberSort v)) (number v n)
  number_resolves v n low at before ws rest =
      let spelled = number_spelled n (omega (arith, low, modulus_small v)) in rw (spelled, lt-ltb n (modulus v) low) refl

  variable_resolves : (k : ℕ) (sort : Sort) → slice_get sorts k ≡ Some sort → Resolves (one_of sort) (variable k)
  variable_resolves k sort e at before ws rest =
      let found : slice_get s.variables k ≡ Some sort = ap (λ l. slice_get l k) scope.variables ∙ e in
      rw (scope.variable_meant k at (slice_get_within sorts k sort e), found, same_sorts sort) refl

  -- an operation after its node was found
  operation_resolves : (n : ExprNode) (o : TokenParts) (v : Width) (e f : ExprTree) → Resolves (one_of (NumberSort v)) e → Resolves (one_of (NumberSort v)) f → (at next : ℕ) (before : List ExprNode) (ws : List Expected) (rest : ExprSyntax)
      → nodes_after s (before ++ n ∷ []) (operand (NumberSort v) ∷ second_operand o (NumberSort v) ∷ ws) ((expr_syntax e at ++ expr_syntax f next) ++ rest) ≡ nodes_after s (before ++ (n ∷ (expr_nodes e ++ expr_nodes f))) ws rest
  operation_resolves n o v e f left right at next before ws rest =
      ap (nodes_after s (before ++ n ∷ []) (operand (NumberSort v) ∷ second_operand o (NumberSort v) ∷ ws)) (append_assoc (expr_syntax e at) (expr_syntax f next) rest)
      ∙ left at (before ++ n ∷ []) (second_operand o (NumberSort v) ∷ ws) (expr_syntax f next ++ rest)
      ∙ as_operand ((before ++ n ∷ []) ++ expr_nodes e) o v ws (expr_syntax f next ++ rest)
      ∙ right next ((before ++ n ∷ []) ++ expr_nodes e) ws rest ∙ ap (λ (l : List ExprNode). nodes_after s l ws rest) (grouped before (n ∷ []) (expr_nodes e) (expr_nodes f)) where
        grouped : (a b c e : List ExprNode) → (a ++ b) ++ c ++ e ≡ a ++ (b ++ (c ++ e))
        grouped a b c e = simp append_assoc

  conversion_resolves : (signed : Bool) (from to : Width) (e : ExprTree) → HasSorts d sorts (one_of (NumberSort from)) e → sort_or_u64 (shown_sort sorts e) ≡ NumberSort from → Resolves (one_of (NumberSort from)) e → Resolves (one_of (NumberSort to)) (converted signed from to e)
  conversion_resolves signed from to e h shown inner at before ws rest =
      let begin = at + length (conversion_text signed to) + 1 in
      let operand_sort : sort_or_u64 (sort_of_first s (first_name (expr_syntax e begin))) ≡ NumberSort from = ap sort_or_u64 (shown_is (first_name (expr_syntax e begin)) (shown_sort sorts e) (shows e (NumberSort from) begin h)) ∙ shown in
      rw (width_read signed to, operand_sort, same_sorts (NumberSort to)) (inner begin (before ++ node.Converted signed from to ∷ []) ws rest ∙ ap (λ (l : List ExprNode). nodes_after s l ws rest) (append_assoc before (node.Converted signed from to ∷ []) (expr_nodes e)))

  call_resolves : (k : ℕ) (result : Sort) (args : ExprTree) (ps : List Sort) → slice_get d.functions k ≡ Some (function_parts result ps) → arguments_count args ≡ length ps → Resolves (all_of ps) args → Resolves (one_of result) (applied k result args)
  call_resolves k result args ps e count inner at before ws rest =
      let begin = at + length (function_name k) + 1 in
      let found : slice_get s.functions k ≡ Some (function_parts result ps) = ap (λ l. slice_get l k) scope.functions ∙ e in
      let n = node.Applied k result (arguments_count args) in
      rw (scope.function_meant k at (slice_get_within d.functions k (function_parts result ps) e), found, same_sorts result, eq-eqb (arguments_count args) (length ps) count)
      (inner begin (before ++ n ∷ []) ws rest ∙ ap (λ (l : List ExprNode). nodes_after s l ws rest) (append_assoc before (n ∷ []) (expr_nodes args)))

  list_resolves : (sort : Sort) (ss : List Sort) (e rest : ExprTree) → Resolves (one_of sort) e → Resolves (all_of ss) rest → Resolves (all_of (sort ∷ ss)) (argument e rest)
  list_resolves sort ss e others first more at before ws rest =
      let next = comma_end others (expr_end e at) in
      ap (nodes_after s before (operand sort ∷ (map operand ss ++ ws))) (append_assoc (expr_syntax e at) (expr_syntax others next) rest)
      ∙ first at before (map operand ss ++ ws) (expr_syntax others next ++ rest)
      ∙ more next (before ++ expr_nodes e) ws rest
      ∙ ap (λ (l : List ExprNode). nodes_after s l ws rest) (append_assoc before (expr_nodes e) (expr_nodes others))

  resolves : (e : ExprTree) (w : Wanted) → HasSorts d sorts w e → Resolves w e
  resolves (number v n) w h = subst (λ (u : Wanted). Resolves u (number v n)) (sym h.0) (number_resolves v n h.1)
  resolves (variable k) w h = subst (λ (u : Wanted). Resolves u (variable k)) (sym h.1) (variable_resolves k h.0 h.2)
  resolves (plus v e f) w h =
      let left = resolves e (one_of (NumberSort v)) (subst (λ (u : Wanted). HasSorts d sorts u e) h.0 h.1) in
      let right = resolves f (one_of (NumberSort v)) (subst (λ (u : Wanted). HasSorts d sorts u f) h.0 h.2) in
      subst (λ (u : Wanted). Resolves u (plus v e f)) (sym h.0)
      (λ at before ws rest. operation_resolves (node.Plus v) (token_parts Symbol (expr_end e (at + 1) + 1) (codes "+")) v e f left right (at + 1) (expr_end e (at + 1) + 1 + 1 + 1) before ws rest)
  resolves (minus v e f) w h =
      let left = resolves e (one_of (NumberSort v)) (subst (λ (u : Wanted). HasSorts d sorts u e) h.0 h.1) in
      let right = resolves f (one_of (NumberSort v)) (subst (λ (u : Wanted). HasSorts d sorts u f) h.0 h.2) in
      subst (λ (u : Wanted). Resolves u (minus v e f)) (sym h.0)
      (λ at before ws rest. operation_resolves (node.Minus v) (token_parts Symbol (expr_end e (at + 1) + 1) (codes "-")) v e f left right (at + 1) (expr_end e (at + 1) + 1 + 1 + 1) before ws rest)
  resolves (times v e f) w h =
      let left = resolves e (one_of (NumberSort v)) (subst (λ (u : Wanted). HasSorts d sorts u e) h.0 h.1) in
      let right = resolves f (one_of (NumberSort v)) (subst (λ (u : Wanted). HasSorts d sorts u f) h.0 h.2) in
      subst (λ (u : Wanted). Resolves u (times v e f)) (sym h.0)
      (λ at before ws rest. operation_resolves (node.Times v) (token_parts Symbol (expr_end e (at + 1) + 1) (codes "*")) v e f left right (at + 1) (expr_end e (at + 1) + 1 + 1 + 1) before ws rest)
  resolves (converted signed from to e) w h =
      subst (λ (u : Wanted). Resolves u (converted signed from to e)) (sym h.0) (conversion_resolves signed from to e h.1 h.2 (resolves e (one_of (NumberSort from)) h.1))
  resolves (applied f result args) w h =
      subst (λ (u : Wanted). Resolves u (applied f result args)) (sym h.1) (call_resolves f result args h.0 h.2 (arguments_many d sorts args h.0 h.3) (resolves args (all_of h.0) h.3))
  resolves no_arguments w h =
      subst (λ (u : Wanted). Resolves u no_arguments) (sym h) (λ at before ws rest. ap (λ (l : List ExprNode). nodes_after s l ws rest) (sym (append-nil before)))
  resolves (argument e rest) w h =
      subst (λ (u : Wanted). Resolves u (argument e rest)) (sym h.2) (list_resolves h.0 h.1 e rest (resolves e (one_of h.0) h.3) (resolves rest (all_of h.1) h.4))

  -- an expression is resolved to its tree
  pub expression_resolved : (e : ExprTree) (sort : Sort) (at : ℕ) → HasSorts d sorts (one_of sort) e → expression_of s sort (expr_syntax e at) ≡ Ok e
  expression_resolved e sort at h =
      let found : nodes_after s [] (operand sort ∷ []) (expr_syntax e at) ≡ Ok (expr_nodes e) = ap (nodes_after s [] (operand sort ∷ [])) (sym (append-nil (expr_syntax e at))) ∙ resolves e (one_of sort) h at [] [] [] in
      ap (λ (m : Result (List ExprNode) TextFault). m >>= λ ns. Ok (only_expr (exprs_of ns))) found ∙ ap Ok (one_back d sorts e sort h)
