-- Whole expressions and conditions: lists of them to which a loop adds some, and the parts of a match.
use Rattle.std.proofs.Common.{◌≡◌, ◌<◌, ℕ, ◌+◌, Bool, true, false, ◌&&◌, nat_eq, List, [], ◌∷◌, ◌++◌, length, map, flat_map, take, get_or, refl, sym, ap, ◌∙◌}
use mathlib.Core.Path.{ap₂}
use Rattle.std.specs.List.{list_all, All}
use Rattle.std.proofs.lemmas.Bool.{and_from, and_parts}
use Rattle.std.proofs.lemmas.List.Elements.{All-get_or}
use Rattle.std.proofs.lemmas.List.Folds.{list_all-append, list_all_more}
use Rattle.kat_model.specs.declared.expression.Rel.TheVariants.{Eq}
use Rattle.kat_model.proofs.Lists.{has_all}
use Rattle.flow_model.specs.Expressions.{variable}
use Rattle.flow_model.specs.Conditions.{CondTree, compared, both}
use Rattle.flow_model.specs.Matches.{Equation}
use Rattle.flow_model.specs.Polish.{CondPart, cond_part, first_cond, other_conds, conds_of}
use Rattle.flow_model.specs.WholeGraphs.{has_whole_sides, is_whole_cond}
use Rattle.flow_model.specs.WholeMatches.{are_whole_equations, is_whole_match, IsWholeMatch}
use Rattle.flow_model.specs.declared.graph.CondNode.{CondNode}
use Rattle.flow_model.specs.declared.block_match.BlockMatch.{BlockMatch}
use Rattle.flow_matches.specs.Working.SideViews.{equation_parts}
use Rattle.flow_matches.proofs.SideGraphs.{has_item}

-- ---- lists whose members all pass a test

module _ {X : Type 0} (p : X → Bool) where
  pub all_pushed : (old new : List X) (x : X) → new ≡ old ++ x ∷ [] → list_all p old ≡ true → p x ≡ true → list_all p new ≡ true
  all_pushed old new x added all own =
      ap (list_all p) added ∙ list_all-append p old (x ∷ []) ∙ and_from (list_all p old) (p x && true) all (and_from (p x) true own refl)

  pub all_item : (xs : List X) (i : ℕ) (x : X) → i < length xs → x ≡ get_or xs i x → list_all p xs ≡ true → p x ≡ true
  all_item xs i x lt is all = ap p is ∙ has_all p xs all (get_or xs i x) (has_item xs i x lt)

  -- copies pass the test exactly where their originals do
  pub all_copied : (first : Bool) (xs : List X) (i : ℕ) (old new : List X) (x copy : X) → i < length xs → new ≡ old ++ copy ∷ [] → p copy ≡ p x → x ≡ get_or xs i x →
      list_all p old ≡ (first && list_all p (take i xs)) → list_all p new ≡ (first && list_all p (take (i + 1) xs))
  all_copied first xs i old new x copy lt added same is made =
      ap (list_all p) added
      ∙ list_all-append p old (copy ∷ [])
      ∙ ap₂ (λ a b. a && (b && true)) made (same ∙ ap p is)
      ∙ one_last first (list_all p (take i xs)) (p (get_or xs i x))
      ∙ ap (λ b. first && b) (sym (list_all_more p xs i x lt))
    where
      one_last : (a b c : Bool) → ((a && b) && (c && true)) ≡ (a && (b && c))
      one_last true true true = refl
      one_last true true false = refl
      one_last true false c = refl
      one_last false b c = refl

-- ---- conditions

-- nodes with the same parts and equally whole sides are a whole condition exactly where the others are
pub same_cond : (ns ms : List CondNode) → map cond_part ns ≡ map cond_part ms → list_all has_whole_sides ns ≡ list_all has_whole_sides ms → is_whole_cond ns ≡ is_whole_cond ms
same_cond ns ms parts sides = ap₂ (λ ps b. nat_eq (length (conds_of ps)) 1 && b) parts sides

one_left : (b : CondTree) (cs : List CondTree) → nat_eq (length cs) 1 ≡ true → nat_eq (length (b ∷ other_conds cs)) 1 ≡ true
one_left b [] h = refl
one_left b (c ∷ cs) h = h

one_held : (es : List Equation) (ps : List CondPart) → nat_eq (length (conds_of ps)) 1 ≡ true → nat_eq (length (conds_of (flat_map equation_parts es ++ ps))) 1 ≡ true
one_held [] ps h = h
one_held (e ∷ es) ps h =
    let rest = conds_of (flat_map equation_parts es ++ ps) in
    one_left (both (compared Eq (variable e.variable) e.expression) (first_cond rest)) rest (one_held es ps h)

-- the condition that equations hold and another
pub whole_holding : (es : List Equation) (ns old new : List CondNode) → is_whole_cond ns ≡ true → list_all has_whole_sides old ≡ true →
    map cond_part new ≡ flat_map equation_parts es ++ map cond_part ns → list_all has_whole_sides new ≡ (list_all has_whole_sides old && list_all has_whole_sides ns) → is_whole_cond new ≡ true
whole_holding es ns old new cond sides parts all =
    let own = and_parts (nat_eq (length (conds_of (map cond_part ns))) 1) (list_all has_whole_sides ns) cond in
    and_from (nat_eq (length (conds_of (map cond_part new))) 1) (list_all has_whole_sides new)
    (ap (λ ps. nat_eq (length (conds_of ps)) 1) parts ∙ one_held es (map cond_part ns) own.0)
    (all ∙ and_from (list_all has_whole_sides old) (list_all has_whole_sides ns) sides own.1)

-- ---- matches

pub match_at_whole : (ms : List BlockMatch) (i : ℕ) (m : BlockMatch) → i < length ms → m ≡ get_or ms i m → All IsWholeMatch ms → is_whole_match m ≡ true
match_at_whole ms i m lt is all = ap is_whole_match is ∙ All-get_or IsWholeMatch ms i m lt all

module _ (m : BlockMatch) (whole : is_whole_match m ≡ true) where
  after_forth : (are_whole_equations m.back.items && (are_whole_equations m.keeping.items && is_whole_cond m.condition.items)) ≡ true
  after_forth = (and_parts (are_whole_equations m.forth.items) (are_whole_equations m.back.items && (are_whole_equations m.keeping.items && is_whole_cond m.condition.items)) whole).1

  after_back : (are_whole_equations m.keeping.items && is_whole_cond m.condition.items) ≡ true
  after_back = (and_parts (are_whole_equations m.back.items) (are_whole_equations m.keeping.items && is_whole_cond m.condition.items) after_forth).1

  pub forth_whole : are_whole_equations m.forth.items ≡ true
  forth_whole = (and_parts (are_whole_equations m.forth.items) (are_whole_equations m.back.items && (are_whole_equations m.keeping.items && is_whole_cond m.condition.items)) whole).0

  pub back_whole : are_whole_equations m.back.items ≡ true
  back_whole = (and_parts (are_whole_equations m.back.items) (are_whole_equations m.keeping.items && is_whole_cond m.condition.items) after_forth).0

  pub keeping_whole : are_whole_equations m.keeping.items ≡ true
  keeping_whole = (and_parts (are_whole_equations m.keeping.items) (is_whole_cond m.condition.items) after_back).0

  pub condition_whole : is_whole_cond m.condition.items ≡ true
  condition_whole = (and_parts (are_whole_equations m.keeping.items) (is_whole_cond m.condition.items) after_back).1
