-- Equations one after the other: which variables they give and read, and the condition that they hold.
use Rattle.std.proofs.Common.{◌≡◌, ◌<◌, ℕ, ◌+◌, Bool, true, false, not, ◌||◌, ◌&&◌, nat_eq, List, [], ◌∷◌, ◌++◌, length, map, flat_map, take, drop, get_or, slice_index_or, replicate, refl, sym, ap, ◌∙◌, subst, arith}
use mathlib.Core.Path.{ap₂}
use Rattle.std.proofs.lemmas.List.{map_more, get_or-replicate, length-replicate, take_all, drop_all}
use Rattle.kat_model.specs.declared.expression.Rel.TheVariants.{Eq}
use Rattle.flow_model.specs.Expressions.{variable}
use Rattle.flow_model.specs.Conditions.{compared, both}
use Rattle.flow_model.specs.Polish.{CondPart, first_cond, conds_of, expr_of}
use Rattle.flow_model.specs.declared.graph.ExprNode.{ExprNode}
use Rattle.flow_model.specs.Matches.{Equation, Match, equation_of}
use Rattle.flow_model.specs.declared.block_match.Equation.{Equation as AnEquation}
use Rattle.flow_ways.specs.Liveness.{reads}
use Rattle.flow_pieces.specs.Matches.{gives, equations_read, is_shared}
use Rattle.flow_pieces.specs.PieceGraphs.{equations_hold}
use Rattle.flow_matches.specs.Working.SideViews.{HasMarks, equation_parts}

-- ---- the condition that equations hold

pub parts_hold : (es : List Equation) (ps : List CondPart) → first_cond (conds_of (flat_map equation_parts es ++ ps)) ≡ equations_hold es (first_cond (conds_of ps))
parts_hold [] ps = refl
parts_hold (e ∷ es) ps = ap (λ b. both (compared Eq (variable e.variable) e.expression) b) (parts_hold es ps)

pub flat_parts : (es : List AnEquation) → flat_map (λ e. equation_parts (equation_of e)) es ≡ flat_map equation_parts (map equation_of es)
flat_parts [] = refl
flat_parts (e ∷ es) = ap (λ ps. equation_parts (equation_of e) ++ ps) (flat_parts es)

-- ---- marks of variables

or_assoc : (a b c : Bool) → ((a || b) || c) ≡ (a || (b || c))
or_assoc true b c = refl
or_assoc false b c = refl

or_false : (b : Bool) → (b || false) ≡ b
or_false true = refl
or_false false = refl

-- a test of some equation, for each of several
pub record IsTestOfOne (any : List Equation → ℕ → Bool) (one : Equation → ℕ → Bool) : Type 0 where
  pub none : (x : ℕ) → any [] x ≡ false
  pub some : (e : Equation) (es : List Equation) (x : ℕ) → any (e ∷ es) x ≡ (one e x || any es x)

pub gives_one : IsTestOfOne gives (λ e x. nat_eq e.variable x)
gives_one = record { none = λ x. refl; some = λ e es x. refl }

pub reads_one : IsTestOfOne equations_read (λ e x. reads x e.expression)
reads_one = record { none = λ x. refl; some = λ e es x. refl }

module _ (any : List Equation → ℕ → Bool) (one : Equation → ℕ → Bool) (i : IsTestOfOne any one) where
  any_pushed : (es : List Equation) (e : Equation) (x : ℕ) → any (es ++ e ∷ []) x ≡ (any es x || one e x)
  any_pushed [] e x = i.some e [] x ∙ ap (λ b. one e x || b) (i.none x) ∙ or_false (one e x) ∙ sym (ap (λ b. b || one e x) (i.none x))
  any_pushed (d ∷ es) e x =
      i.some d (es ++ e ∷ []) x
      ∙ ap (λ b. one d x || b) (any_pushed es e x)
      ∙ sym (or_assoc (one d x) (any es x) (one e x))
      ∙ ap (λ b. b || one e x) (sym (i.some d es x))

  or_swapped : (a b c : Bool) → (b || (a || c)) ≡ ((a || b) || c)
  or_swapped true true c = refl
  or_swapped true false c = refl
  or_swapped false true c = refl
  or_swapped false false c = refl

  pub marks_none : (old : List Bool) → HasMarks (any []) old old
  marks_none old = record { long = refl; marked = λ x lt. sym (ap (λ b. b || slice_index_or old x false) (i.none x)) }

  pub marks_next : (xs : List AnEquation) (n : ℕ) (d e : AnEquation) (first old new : List Bool) → n < length xs → HasMarks (any (map equation_of (take n xs))) first old →
      length new ≡ length old → ((x : ℕ) → x < length old → slice_index_or new x false ≡ (one (equation_of e) x || slice_index_or old x false)) → e ≡ get_or xs n d →
      HasMarks (any (map equation_of (take (n + 1) xs))) first new
  marks_next xs n d e first old new lt so_far long added is = record {
    long = long ∙ so_far.long;
    marked = λ x below.
        added x (omega (arith, below, so_far.long))
        ∙ ap (λ b. one (equation_of e) x || b) (so_far.marked x below)
        ∙ or_swapped (any (map equation_of (take n xs)) x) (one (equation_of e) x) (slice_index_or first x false)
        ∙ ap (λ b. b || slice_index_or first x false)
        (sym (ap (λ es. any es x) (map_more equation_of xs n d lt) ∙ any_pushed (map equation_of (take n xs)) (equation_of (get_or xs n d)) x ∙ ap (λ z. any (map equation_of (take n xs)) x || one (equation_of z) x) (sym is)));
  }

-- the marks of a fresh table are of the variables of which no equation between both states speaks
pub shared_marks : (m : Match) (n x : ℕ) (none first second third : List Bool) → x < n → none ≡ replicate n false → HasMarks (gives m.forth) none first → HasMarks (gives m.back) first second → HasMarks (equations_read m.back) second third →
    not (slice_index_or third x false) ≡ is_shared m x
shared_marks m n x none first second third lt fresh f g r =
    let long : length none ≡ n = ap length fresh ∙ length-replicate n false in
    let a = f.marked x (omega (arith, lt, long)) ∙ ap (λ l. gives m.forth x || slice_index_or l x false) fresh ∙ ap (λ v. gives m.forth x || v) (get_or-replicate n x false false lt) in
    let b = g.marked x (omega (arith, lt, long, f.long)) ∙ ap (λ v. gives m.back x || v) a in
    let c = r.marked x (omega (arith, lt, long, f.long, g.long)) ∙ ap (λ v. equations_read m.back x || v) b in
    ap not c ∙ by_tests (gives m.forth x) (gives m.back x) (equations_read m.back x)
  where
    by_tests : (f g r : Bool) → not (r || (g || (f || false))) ≡ (not f && (not g && not r))
    by_tests true true true = refl
    by_tests true true false = refl
    by_tests true false true = refl
    by_tests true false false = refl
    by_tests false true true = refl
    by_tests false true false = refl
    by_tests false false true = refl
    by_tests false false false = refl

-- what a call marks at the nodes and in the table that it was passed
pub read_here : (nodes items : List ExprNode) (row old new : List Bool) → nodes ≡ items → old ≡ row → ((x : ℕ) → x < length old → slice_index_or new x false ≡ (reads x (expr_of nodes) || slice_index_or old x false)) →
    (x : ℕ) → x < length row → slice_index_or new x false ≡ (reads x (expr_of items) || slice_index_or row x false)
read_here nodes items row old new e f h x lt =
    h x (subst (λ l. x < length l) (sym f) lt) ∙ ap₂ (λ ns l. reads x (expr_of ns) || slice_index_or l x false) e f

-- a slice that was lent from a list and written is the list afterwards
pub written_back : (new items : List Bool) (n : ℕ) → length new ≡ n → length items ≡ n → take n (new ++ drop (length new) items) ≡ new
written_back new items n e f =
    ap (λ l. take n (new ++ l)) (drop_all (length new) items (omega (arith, e, f))) ∙ ap (take n) (append_none new) ∙ take_all n new (omega (arith, e))
  where
    append_none : (xs : List Bool) → xs ++ [] ≡ xs
    append_none [] = refl
    append_none (x ∷ xs) = ap (λ ys. x ∷ ys) (append_none xs)
