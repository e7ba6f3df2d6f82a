-- Runs from states that agree on the live variables reach the same places and return the same values.
use Rattle.std.proofs.Common.{◌≡◌, ◌⊎◌, inl, inr, ℕ, zero, suc, Bool, true, false, not, ◌&&◌, ◌||◌, nat_eq, ◌+◌, ◌-◌, ◌*◌, ◌%◌, List, [], ◌∷◌, length, map, set, Option, Some, None, slice_get, slice_index_or, if◌then◌else◌, refl, sym, ◌∙◌, ap, subst, arith}
use mathlib.Core.Path.{ap₂}
use Rattle.std.proofs.lemmas.List.{length-set}
use Rattle.std.proofs.lemmas.Bool.{or_cases, or_left, or_right, cases_eq}
use Rattle.std.proofs.lemmas.Bool.Decides.{nat_tests}
use Rattle.kat_model.specs.Stores.{modulus, compares}
use Rattle.kat_model.specs.Members.{Has}
use Rattle.flow_model.specs.declared.sort.Sort.{Sort}
use Rattle.flow_model.specs.Sorts.{State, value_in}
use Rattle.flow_model.specs.Expressions.{ExprTree}
use Rattle.flow_model.specs.Expressions as expr
use Rattle.flow_model.specs.Conditions.{CondTree}
use Rattle.flow_model.specs.Conditions as cond
use Rattle.flow_model.specs.Graphs.{StatementTree, assign, claim, JumpTree, goto, branch, return, abort, Block, Graph}
use Rattle.flow_model.specs.Interpretations.{Interpretation, conversion, biased, first, values, value, holds}
use Rattle.flow_model.specs.Runs.{with_values, after_statements}
use Rattle.flow_ways.specs.Liveness.{reads, any_reads, cond_reads, is_target, live_before, jump_reads, jump_targets, IsLive, is_read, is_left, AgreeLive, StopsAgree}
use Rattle.flow_ways.specs.Sorted.{AreAssigned, AreSortedStatements, IsSortedGraph}
use Rattle.flow_ways.specs.Stops.{Stop, came_to, jump_stop, jump_stop_if, block_stop, stop_from}

-- the states agree on the variables of a set
abbrev pub Agree : (ℕ → Bool) → State → State → Type 0
Agree b s t = (x : ℕ) → b x ≡ true → slice_index_or s x 0 ≡ slice_index_or t x 0

left_of : (a b : ℕ → Bool) (s t : State) → Agree (λ x. a x || b x) s t → Agree a s t
left_of a b s t h x e = h x (or_left (a x) (b x) e)

right_of : (a b : ℕ → Bool) (s t : State) → Agree (λ x. a x || b x) s t → Agree b s t
right_of a b s t h x e = h x (or_right (a x) (b x) e)

own_number : (k : ℕ) → nat_eq k k ≡ true
own_number k = grind (arith, nat_tests)

values_agree : (I : Interpretation) (s t : State) (e : ExprTree) → Agree (λ x. reads x e) s t → values I s e ≡ values I t e
values_agree I s t (expr.number w n) h = refl
values_agree I s t (expr.variable k) h = ap (λ n. n ∷ []) (h k (own_number k))
values_agree I s t (expr.plus w e f) h =
    ap₂ (λ x y. ((first x + first y) % modulus w) ∷ []) (values_agree I s t e (left_of (λ x. reads x e) (λ x. reads x f) s t h)) (values_agree I s t f (right_of (λ x. reads x e) (λ x. reads x f) s t h))
values_agree I s t (expr.minus w e f) h =
    ap₂ (λ x y. ((first x + (modulus w - first y)) % modulus w) ∷ []) (values_agree I s t e (left_of (λ x. reads x e) (λ x. reads x f) s t h)) (values_agree I s t f (right_of (λ x. reads x e) (λ x. reads x f) s t h))
values_agree I s t (expr.times w e f) h =
    ap₂ (λ x y. ((first x * first y) % modulus w) ∷ []) (values_agree I s t e (left_of (λ x. reads x e) (λ x. reads x f) s t h)) (values_agree I s t f (right_of (λ x. reads x e) (λ x. reads x f) s t h))
values_agree I s t (expr.converted signed from to e) h = ap (λ x. conversion signed from to (first x) ∷ []) (values_agree I s t e h)
values_agree I s t (expr.applied f result arguments) h = ap (λ x. value_in result (I f x) ∷ []) (values_agree I s t arguments h)
values_agree I s t expr.no_arguments h = refl
values_agree I s t (expr.argument e rest) h =
    ap₂ (λ x y. first x ∷ y) (values_agree I s t e (left_of (λ x. reads x e) (λ x. reads x rest) s t h)) (values_agree I s t rest (right_of (λ x. reads x e) (λ x. reads x rest) s t h))

value_agrees : (I : Interpretation) (s t : State) (e : ExprTree) → Agree (λ x. reads x e) s t → value I s e ≡ value I t e
value_agrees I s t e h = ap first (values_agree I s t e h)

all_agree : (I : Interpretation) (s t : State) (es : List ExprTree) → Agree (λ x. any_reads x es) s t → map (value I s) es ≡ map (value I t) es
all_agree I s t [] h = refl
all_agree I s t (e ∷ es) h =
    ap₂ (λ n ns. n ∷ ns)
    (value_agrees I s t e (left_of (λ x. reads x e) (λ x. any_reads x es) s t h))
    (all_agree I s t es (right_of (λ x. reads x e) (λ x. any_reads x es) s t h))

holds_agrees : (I : Interpretation) (s t : State) (b : CondTree) → Agree (λ x. cond_reads x b) s t → holds I s b ≡ holds I t b
holds_agrees I s t cond.always h = refl
holds_agrees I s t cond.never h = refl
holds_agrees I s t (cond.compared rel e f) h =
    ap₂ (λ x y. compares rel x y) (value_agrees I s t e (left_of (λ x. reads x e) (λ x. reads x f) s t h)) (value_agrees I s t f (right_of (λ x. reads x e) (λ x. reads x f) s t h))
holds_agrees I s t (cond.compared_signed rel w e f) h =
    ap₂ (λ x y. compares rel (biased w x) (biased w y)) (value_agrees I s t e (left_of (λ x. reads x e) (λ x. reads x f) s t h)) (value_agrees I s t f (right_of (λ x. reads x e) (λ x. reads x f) s t h))
holds_agrees I s t (cond.negation b) h = ap not (holds_agrees I s t b h)
holds_agrees I s t (cond.both b c) h =
    ap₂ (λ x y. x && y) (holds_agrees I s t b (left_of (λ x. cond_reads x b) (λ x. cond_reads x c) s t h)) (holds_agrees I s t c (right_of (λ x. cond_reads x b) (λ x. cond_reads x c) s t h))
holds_agrees I s t (cond.either b c) h =
    ap₂ (λ x y. x || y) (holds_agrees I s t b (left_of (λ x. cond_reads x b) (λ x. cond_reads x c) s t h)) (holds_agrees I s t c (right_of (λ x. cond_reads x b) (λ x. cond_reads x c) s t h))

-- setting

set_other : (s : State) (k x n : ℕ) → (k ≡ x → ⊥) → slice_index_or (set s k n) x 0 ≡ slice_index_or s x 0
set_other [] k x n h = refl
set_other (m ∷ s) zero zero n h = absurd (h refl)
set_other (m ∷ s) zero (suc x) n h = refl
set_other (m ∷ s) (suc k) zero n h = refl
set_other (m ∷ s) (suc k) (suc x) n h = set_other s k x n (λ e. h (ap suc e))

-- states that are set alike agree where they agreed, and where they are set
set_agrees : (s t : State) (k x n : ℕ) → length s ≡ length t → (k ≡ x) ⊎ (slice_index_or s x 0 ≡ slice_index_or t x 0) → slice_index_or (set s k n) x 0 ≡ slice_index_or (set t k n) x 0
set_agrees [] [] k x n l h = refl
set_agrees [] (m ∷ t) k x n l h = absurd (omega (arith, l))
set_agrees (m ∷ s) [] k x n l h = absurd (omega (arith, l))
set_agrees (m ∷ s) (o ∷ t) zero zero n l h = refl
set_agrees (m ∷ s) (o ∷ t) zero (suc x) n l (inl e) = absurd cc
set_agrees (m ∷ s) (o ∷ t) zero (suc x) n l (inr e) = e
set_agrees (m ∷ s) (o ∷ t) (suc k) zero n l (inl e) = absurd cc
set_agrees (m ∷ s) (o ∷ t) (suc k) zero n l (inr e) = e
set_agrees (m ∷ s) (o ∷ t) (suc k) (suc x) n l (inl e) = set_agrees s t k x n (omega (arith, l)) (inl (let same : k ≡ x = cc in same))
set_agrees (m ∷ s) (o ∷ t) (suc k) (suc x) n l (inr e) = set_agrees s t k x n (omega (arith, l)) (inr e)

pub length-with_values : (s : State) (ks ns : List ℕ) → length (with_values s ks ns) ≡ length s
length-with_values s [] ns = refl
length-with_values s (k ∷ ks) [] = refl
length-with_values s (k ∷ ks) (n ∷ ns) = length-with_values (set s k n) ks ns ∙ simp length-set

-- the states agree on the variables that are set, if equally many values are given, and on those on which they agreed
assigned_agree : (s t : State) (ks ns : List ℕ) (x : ℕ) → length s ≡ length t → length ns ≡ length ks → (is_target x ks ≡ true) ⊎ (slice_index_or s x 0 ≡ slice_index_or t x 0) → slice_index_or (with_values s ks ns) x 0 ≡ slice_index_or (with_values t ks ns) x 0
assigned_agree s t [] ns x l m (inl e) = absurd cc
assigned_agree s t [] ns x l m (inr e) = e
assigned_agree s t (k ∷ ks) [] x l m h = absurd (omega (arith, m))
assigned_agree s t (k ∷ ks) (n ∷ ns) x l m h = assigned_agree (set s k n) (set t k n) ks ns x (simp length-set l) (omega (arith, m)) (later h)
  where
    at_key : (nat_eq k x ≡ true) ⊎ (is_target x ks ≡ true) → (is_target x ks ≡ true) ⊎ (slice_index_or (set s k n) x 0 ≡ slice_index_or (set t k n) x 0)
    at_key (inl e) = let same : k ≡ x = grind (arith, nat_tests) in inr (set_agrees s t k x n l (inl same))
    at_key (inr e) = inl e

    later : (is_target x (k ∷ ks) ≡ true) ⊎ (slice_index_or s x 0 ≡ slice_index_or t x 0) → (is_target x ks ≡ true) ⊎ (slice_index_or (set s k n) x 0 ≡ slice_index_or (set t k n) x 0)
    later (inl e) = at_key (or_cases (nat_eq k x) (is_target x ks) e)
    later (inr e) = inr (set_agrees s t k x n l (inr e))

-- statements

-- both are stuck, or both go on in states that agree
abbrev pub OptionsAgree : (ℕ → Bool) → Option State → Option State → Type 0
OptionsAgree b None None = Unit {0}
OptionsAgree b (Some s) (Some t) = (length s ≡ length t) × Agree b s t
OptionsAgree b o p = ⊥

-- an assignment gives each of its variables a value
abbrev pub AreFull : List StatementTree → Type 0
AreFull [] = Unit {0}
AreFull (assign ks es ∷ rest) = (length es ≡ length ks) × AreFull rest
AreFull (claim b ∷ rest) = AreFull rest

not_target : (a b : Bool) → (not a && b) ≡ true → (a ≡ false) × (b ≡ true)
not_target true b e = absurd cc
not_target false b e = (refl, e)

target_or_live : (a b : Bool) → b ≡ true → (a ≡ true) ⊎ ((not a && b) ≡ true)
target_or_live true b e = inl refl
target_or_live false b e = inr e

length-map : (I : Interpretation) (s : State) (es : List ExprTree) → length (map (value I s) es) ≡ length es
length-map I s [] = refl
length-map I s (e ∷ es) = ap suc (length-map I s es)

statements_agree : (I : Interpretation) (b : ℕ → Bool) (stmts : List StatementTree) (s t : State) → AreFull stmts → length s ≡ length t → Agree (λ x. live_before x stmts (b x)) s t → OptionsAgree b (after_statements I s stmts) (after_statements I t stmts)
statements_agree I b [] s t f l h = (l, h)
statements_agree I b (assign ks es ∷ rest) s t f l h =
    subst (λ ns. OptionsAgree b (after_statements I (with_values s ks (map (value I s) es)) rest) (after_statements I (with_values t ks ns) rest)) same
    (statements_agree I b rest (with_values s ks (map (value I s) es)) (with_values t ks (map (value I s) es)) f.1
    (length-with_values s ks (map (value I s) es) ∙ l ∙ sym (length-with_values t ks (map (value I s) es)))
    (λ x e. assigned_agree s t ks (map (value I s) es) x l (length-map I s es ∙ f.0) (here x (target_or_live (is_target x ks) (live_before x rest (b x)) e))))
  where
    same : map (value I s) es ≡ map (value I t) es
    same = all_agree I s t es (λ x e. h x (or_left (any_reads x es) (not (is_target x ks) && live_before x rest (b x)) e))

    here : (x : ℕ) → (is_target x ks ≡ true) ⊎ ((not (is_target x ks) && live_before x rest (b x)) ≡ true) → (is_target x ks ≡ true) ⊎ (slice_index_or s x 0 ≡ slice_index_or t x 0)
    here x (inl e) = inl e
    here x (inr e) = inr (h x (or_right (any_reads x es) (not (is_target x ks) && live_before x rest (b x)) e))
statements_agree I b (claim c ∷ rest) s t f l h =
    by_truth (statements_agree I b rest s t f l (λ x e. h x (or_right (cond_reads x c) (live_before x rest (b x)) e)))
    (holds I s c) (holds I t c) (holds_agrees I s t c (λ x e. h x (or_left (cond_reads x c) (live_before x rest (b x)) e)))
  where
    by_truth : OptionsAgree b (after_statements I s rest) (after_statements I t rest) → (p q : Bool) → p ≡ q → OptionsAgree b (if p then after_statements I s rest else None) (if q then after_statements I t rest else None)
    by_truth later true true e = later
    by_truth later false false e = tt
    by_truth later true false e = absurd cc
    by_truth later false true e = absurd cc

-- blocks

-- what is live with nothing live after the statements is live
live_more : (x : ℕ) (stmts : List StatementTree) (b : Bool) → live_before x stmts false ≡ true → live_before x stmts b ≡ true
live_more x [] b e = absurd cc
live_more x (assign ks es ∷ rest) b e =
    by_cases (λ k. live_more x rest b k) (or_cases (any_reads x es) (not (is_target x ks) && live_before x rest false) e)
  where
    by_cases : (live_before x rest false ≡ true → live_before x rest b ≡ true) → (any_reads x es ≡ true) ⊎ ((not (is_target x ks) && live_before x rest false) ≡ true) → live_before x (assign ks es ∷ rest) b ≡ true
    by_cases later (inl h) = or_left (any_reads x es) (not (is_target x ks) && live_before x rest b) h
    by_cases later (inr h) =
        let parts = not_target (is_target x ks) (live_before x rest false) h in
        or_right (any_reads x es) (not (is_target x ks) && live_before x rest b) (rw (parts.0) (later parts.1))
live_more x (claim c ∷ rest) b e =
    by_cases (λ k. live_more x rest b k) (or_cases (cond_reads x c) (live_before x rest false) e)
  where
    by_cases : (live_before x rest false ≡ true → live_before x rest b ≡ true) → (cond_reads x c ≡ true) ⊎ (live_before x rest false ≡ true) → live_before x (claim c ∷ rest) b ≡ true
    by_cases later (inl h) = or_left (cond_reads x c) (live_before x rest b) h
    by_cases later (inr h) = or_right (cond_reads x c) (live_before x rest b) (later h)

-- where the jump of a block reads
read_agree : (g : Graph) (k : ℕ) (block : Block) (s t : State) → slice_get g k ≡ Some block → AgreeLive g k s t → Agree (λ x. live_before x block.statements (jump_reads x block.jump)) s t
read_agree g k block s t e h x r = h x (is_read k block e r)

-- where one variable is live at a target of the jump
left_agree : (g : Graph) (k l : ℕ) (block : Block) (s t : State) (y : ℕ) → slice_get g k ≡ Some block → Has (jump_targets block.jump) l → IsLive g y l → AgreeLive g k s t → Agree (λ x. live_before x block.statements (nat_eq x y)) s t
left_agree g k l block s t y e j v h x r = by_cases (cases_eq x y)
  where
    by_cases : (x ≡ y) ⊎ (x ≡ y → ⊥) → slice_index_or s x 0 ≡ slice_index_or t x 0
    by_cases (inl q) =
        let test : nat_eq x y ≡ true = grind (arith, nat_tests) in
        let kept : live_before x block.statements true ≡ true = ap (live_before x block.statements) (sym test) ∙ r in
        h x (is_left k l block e j kept (subst (λ z. IsLive g z l) (sym q) v))
    by_cases (inr n) =
        let test : nat_eq x y ≡ false = grind (arith, nat_tests) in
        let none : live_before x block.statements false ≡ true = ap (live_before x block.statements) (sym test) ∙ r in
        h x (is_read k block e (live_more x block.statements (jump_reads x block.jump) none))

abbrev pub AreFullBlocks : Graph → Type 0
AreFullBlocks [] = Unit {0}
AreFullBlocks (block ∷ blocks) = AreFull block.statements × AreFullBlocks blocks

full_block : (g : Graph) (k : ℕ) (block : Block) → AreFullBlocks g → slice_get g k ≡ Some block → AreFull block.statements
full_block [] zero block o e = absurd cc
full_block [] (suc k) block o e = absurd cc
full_block (b ∷ g) zero block o e = let same : b ≡ block = cc in subst (λ c. AreFull c.statements) same o.0
full_block (b ∷ g) (suc k) block o e = full_block g k block o.1 e

-- runs go on alike from states that agree on what is live
abbrev GoAlike : Graph → (ℕ → State → Stop) → Type 0
GoAlike g go = (k : ℕ) (s t : State) → length s ≡ length t → AgreeLive g k s t → StopsAgree g (go k s) (go k t)

jump_alike : (I : Interpretation) (g : Graph) (go : ℕ → State → Stop) → GoAlike g go → (jump : JumpTree) (s t : State) → length s ≡ length t →
    Agree (λ x. jump_reads x jump) s t → ((l : ℕ) → Has (jump_targets jump) l → AgreeLive g l s t) → StopsAgree g (jump_stop I go jump s) (jump_stop I go jump t)
jump_alike I g go f (goto k) s t l r h = f k s t l (h k (inl refl))
jump_alike I g go f (branch b k j) s t l r h = by_truth (holds I s b) (holds I t b) (holds_agrees I s t b r)
  where
    by_truth : (p q : Bool) → p ≡ q → StopsAgree g (go (if p then k else j) s) (go (if q then k else j) t)
    by_truth true true e = f k s t l (h k (inl refl))
    by_truth false false e = f j s t l (h j (inr (inl refl)))
    by_truth true false e = absurd cc
    by_truth false true e = absurd cc
jump_alike I g go f (return es) s t l r h = all_agree I s t es r
jump_alike I g go f abort s t l r h = tt

-- the runs from a block, from states that agree on what is live there
block_alike : (I : Interpretation) (g : Graph) (go : ℕ → State → Stop) → GoAlike g go → AreFullBlocks g → (k : ℕ) (block : Block) → slice_get g k ≡ Some block →
    (s t : State) → length s ≡ length t → AgreeLive g k s t → StopsAgree g (block_stop I go (Some block) s) (block_stop I go (Some block) t)
block_alike I g go f o k block e s t l h =
    ends (after_statements I s block.statements) (after_statements I t block.statements)
    (statements_agree I (λ x. jump_reads x block.jump) block.statements s t full l (read_agree g k block s t e h))
    (λ j y has v. statements_agree I (λ x. nat_eq x y) block.statements s t full l (left_agree g k j block s t y e has v h))
  where
    full : AreFull block.statements
    full = full_block g k block o e

    ends : (a b : Option State) → OptionsAgree (λ x. jump_reads x block.jump) a b → ((j y : ℕ) → Has (jump_targets block.jump) j → IsLive g y j → OptionsAgree (λ x. nat_eq x y) a b) →
        StopsAgree g (jump_stop_if I go block.jump a) (jump_stop_if I go block.jump b)
    ends None None p q = tt
    ends None (Some u) p q = absurd p
    ends (Some u) None p q = absurd p
    ends (Some u) (Some v) p q = jump_alike I g go f block.jump u v p.0 p.1 (λ j has x live. (q j x has live).1 x (own_number x))

pub runs_alike : (I : Interpretation) (g : Graph) (is_place : ℕ → Bool) → AreFullBlocks g → (n : ℕ) → GoAlike g (stop_from I g is_place n)
runs_alike I g is_place o zero k s t l h = tt
runs_alike I g is_place o (suc n) k s t l h = at_block (go_alike (runs_alike I g is_place o n)) (slice_get g k) refl
  where
    go_alike : GoAlike g (stop_from I g is_place n) → GoAlike g (λ j u. if is_place j then came_to j u else stop_from I g is_place n j u)
    go_alike later j u v m q = by_place (is_place j)
      where
        by_place : (b : Bool) → StopsAgree g (if b then came_to j u else stop_from I g is_place n j u) (if b then came_to j v else stop_from I g is_place n j v)
        by_place true = (refl, m, q)
        by_place false = later j u v m q

    at_block : GoAlike g (λ j u. if is_place j then came_to j u else stop_from I g is_place n j u) → (b : Option Block) → slice_get g k ≡ b →
        StopsAgree g (block_stop I (λ j u. if is_place j then came_to j u else stop_from I g is_place n j u) b s) (block_stop I (λ j u. if is_place j then came_to j u else stop_from I g is_place n j u) b t)
    at_block alike None e = tt
    at_block alike (Some block) e = block_alike I g (λ j u. if is_place j then came_to j u else stop_from I g is_place n j u) alike o k block e s t l h

-- graphs in which each expression has its sort

full_assigned : (sorts : List Sort) (ks : List ℕ) (es : List ExprTree) → AreAssigned sorts ks es → length es ≡ length ks
full_assigned sorts [] [] o = refl
full_assigned sorts [] (e ∷ es) o = absurd o
full_assigned sorts (k ∷ ks) [] o = absurd o
full_assigned sorts (k ∷ ks) (e ∷ es) o = ap suc (full_assigned sorts ks es o.2)

full_statements : (sorts : List Sort) (stmts : List StatementTree) → AreSortedStatements sorts stmts → AreFull stmts
full_statements sorts [] o = tt
full_statements sorts (assign ks es ∷ rest) o = (full_assigned sorts ks es o.0, full_statements sorts rest o.1)
full_statements sorts (claim b ∷ rest) o = full_statements sorts rest o.1

full_graph : (sorts : List Sort) (g : Graph) → IsSortedGraph sorts g → AreFullBlocks g
full_graph sorts [] o = tt
full_graph sorts (block ∷ g) o = (full_statements sorts block.statements o.0.0, full_graph sorts g o.1)

pub sorted_runs_alike : (I : Interpretation) (g : Graph) (sorts : List Sort) (is_place : ℕ → Bool) → IsSortedGraph sorts g → (n k : ℕ) (s t : State) → length s ≡ length t → AgreeLive g k s t → StopsAgree g (stop_from I g is_place n k s) (stop_from I g is_place n k t)
sorted_runs_alike I g sorts is_place o n k s t l h = runs_alike I g is_place (full_graph sorts g o) n k s t l h
