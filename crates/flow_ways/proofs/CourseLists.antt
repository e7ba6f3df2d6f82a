-- Lists of forms, facts and tests that grow at their ends.
use Rattle.std.proofs.Common.{◌≡◌, ℕ, suc, ◌+◌, ◌≤◌, Bool, true, false, List, [], ◌∷◌, ◌++◌, length, map, take, set, refl, sym, ◌∙◌, ap, arith, append_assoc}
use Rattle.std.proofs.lemmas.List.{append-nil, length-map, length-take, map-set, map_push, take-map, set_past, take-take, take_all, take_at}
use Rattle.flow_forms.specs.declared.form.FlowForm.{FlowForm}
use Rattle.flow_forms.specs.Forms.{FlowFormTree, variable, form_tree}
use Rattle.flow_forms.specs.Expressions.{form_of_cell}
use Rattle.flow_model.specs.declared.sort.Sort.{Sort}
use Rattle.flow_ways.specs.Ways.{own_forms_from}
use Rattle.flow_ways.specs.Conditions.{FlowCondTree, constantly, both, either, Fact, facts_of}

pub map_pushed : {X Y : Type 0} (f : X → Y) (xs : List X) (x : X) → map f (xs ++ x ∷ []) ≡ map f xs ++ f x ∷ []
map_pushed f xs x = map_push f xs x

pub map_put : (fs : List FlowForm) (k : ℕ) (f : FlowForm) → map form_tree (set fs k f) ≡ set (map form_tree fs) k (form_tree f)
map_put fs k f = map-set form_tree fs k f

-- an element and the rest, after what was there
pub pushed_then : {X : Type 0} (old mid new rest : List X) (x : X) → mid ≡ old ++ x ∷ [] → new ≡ mid ++ rest → new ≡ old ++ x ∷ rest
pushed_then old mid new rest x e f = f ∙ ap (λ ys. ys ++ rest) e ∙ append_assoc old (x ∷ []) rest

-- facts

pub no_facts : (b : Bool) (v : Bool) (facts : List Fact) → facts ≡ facts ++ facts_of (constantly b) v
no_facts b v facts = sym (append-nil facts)

pub both_facts : (b c : FlowCondTree) (v : Bool) (old mid new : List Fact) → v ≡ true → mid ≡ old ++ facts_of b true → new ≡ mid ++ facts_of c true → new ≡ old ++ facts_of (both b c) v
both_facts b c v old mid new t e f =
    f ∙ ap (λ xs. xs ++ facts_of c true) e ∙ append_assoc old (facts_of b true) (facts_of c true) ∙ ap (λ w. old ++ facts_of (both b c) w) (sym t)

pub no_both_facts : (b c : FlowCondTree) (v : Bool) (facts : List Fact) → v ≡ false → facts ≡ facts ++ facts_of (both b c) v
no_both_facts b c v facts t = sym (append-nil facts) ∙ ap (λ w. facts ++ facts_of (both b c) w) (sym t)

pub either_facts : (b c : FlowCondTree) (v : Bool) (old mid new : List Fact) → v ≡ false → mid ≡ old ++ facts_of b false → new ≡ mid ++ facts_of c false → new ≡ old ++ facts_of (either b c) v
either_facts b c v old mid new t e f =
    f ∙ ap (λ xs. xs ++ facts_of c false) e ∙ append_assoc old (facts_of b false) (facts_of c false) ∙ ap (λ w. old ++ facts_of (either b c) w) (sym t)

pub no_either_facts : (b c : FlowCondTree) (v : Bool) (facts : List Fact) → v ≡ true → facts ≡ facts ++ facts_of (either b c) v
no_either_facts b c v facts t = sym (append-nil facts) ∙ ap (λ w. facts ++ facts_of (either b c) w) (sym t)

-- lists that begin with what was there

pub take_own : {X : Type 0} (xs : List X) → take (length xs) xs ≡ xs
take_own xs = take_all (length xs) xs (omega arith)

pub take_first : {X : Type 0} (xs ys : List X) → take (length xs) (xs ++ ys) ≡ xs
take_first xs ys = take_at xs ys (length xs) refl

pub still_first : {X : Type 0} (xs ys zs : List X) → take (length xs) ys ≡ xs → take (length ys) zs ≡ ys → take (length xs) zs ≡ xs
still_first xs ys zs e f =
    let short : length xs ≤ length ys = let h = length-take (length xs) ys in let k = ap length e in omega (arith, h, k) in
    sym (take-take (length xs) (length ys) zs short) ∙ ap (take (length xs)) f ∙ e

pub then_more : {X : Type 0} (old mid new xs ys : List X) → mid ≡ old ++ xs → new ≡ mid ++ ys → new ≡ old ++ (xs ++ ys)
then_more old mid new xs ys e f = f ∙ ap (λ zs. zs ++ ys) e ∙ append_assoc old xs ys

-- lists cut to what was there
pub mapped_length : {X Y : Type 0} (f : X → Y) (xs : List X) → length xs ≡ length (map f xs)
mapped_length f xs = sym (length-map xs f)

pub mapped_first : {X Y : Type 0} (f : X → Y) (n : ℕ) (xs : List X) → map f (take n xs) ≡ take n (map f xs)
mapped_first f n xs = sym (take-map f n xs)

pub put_past : (fs : List FlowForm) (k : ℕ) (f : FlowFormTree) → length fs ≤ k → map form_tree fs ≡ set (map form_tree fs) k f
put_past fs k f h = sym (set_past (map form_tree fs) k f (let l = length-map fs form_tree in omega (arith, l, h)))

pub none_then : {X : Type 0} (xs : List X) → xs ≡ xs ++ []
none_then xs = sym (append-nil xs)

-- a variable that stands for itself, and the others
pub own_then : (sort : Sort) (rest : List Sort) (k : ℕ) (old mid new : List FlowFormTree) → mid ≡ old ++ form_of_cell sort (variable k) ∷ [] → new ≡ mid ++ own_forms_from (k + 1) rest → new ≡ old ++ own_forms_from k (sort ∷ rest)
own_then sort rest k old mid new e f =
    let next : k + 1 ≡ suc k = omega arith in
    pushed_then old mid new (own_forms_from (k + 1) rest) (form_of_cell sort (variable k)) e f
    ∙ ap (λ n. old ++ form_of_cell sort (variable k) ∷ own_forms_from n rest) next
