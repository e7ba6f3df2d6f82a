-- Ways that are found, and all ways.
use Rattle.std.proofs.Common.{◌≡◌, ℕ, zero, suc, Bool, true, false, ◌&&◌, List, [], ◌∷◌, ◌++◌, length, map, Option, Some, None, slice_get, option_map, if◌then◌else◌, refl, sym, subst, ◌∙◌, ap, arith}
use mathlib.Core.Path.{ap₂}
use Rattle.std.proofs.lemmas.List.{length-map}
use Rattle.std.proofs.lemmas.Option.{slice_get-map}
use Rattle.flow_model.specs.declared.sort.Sort.{Sort}
use Rattle.std.specs.Prelude.{Vec}
use Rattle.std.specs.declared.alloc.Global.{Global}
use Rattle.flow_model.specs.declared.graph.CondNode.{CondNode}
use Rattle.flow_model.specs.declared.graph.Jump.{Jump}
use Rattle.flow_model.specs.declared.graph.Jump.TheVariants.{Goto, Branch, Return, Abort}
use Rattle.flow_model.specs.declared.graph.Statement.{Statement}
use Rattle.flow_model.specs.declared.graph.Block.{Block as ABlock}
use Rattle.flow_model.specs.Polish.{cond_of, statement_of, jump_of, block_of, graph_of}
use Rattle.flow_forms.specs.declared.fault.FormFault.{FormFault}
use Rattle.flow_forms.specs.declared.fault.FormFault.TheVariants as form
use Rattle.flow_ways.specs.Conditions.{FlowCondTree, opposite_cond}
use Rattle.flow_ways.specs.CondForms.{cond_nodes_fit}
use Rattle.flow_ways.specs.Ways.{SymbolicRun, Way, at_place, with_test, condition_on, after_statements, ways_if, jump_ways, block_ways, ways_from, first_course, ways}
use Rattle.flow_ways.specs.Outcomes.{Outcome, no_way, outcome_if, one_way, together, if_fits, statements_fit, placed_way, branch_outcome, jump_outcome, block_outcome, outcome_from, target_outcome, all_ways}
use Rattle.flow_ways.specs.Faults.{way_fault_of}
use Rattle.flow_ways.specs.CourseTrees.{if_goes}
use Rattle.flow_ways.specs.declared.found.Found.{Found}
use Rattle.flow_ways.specs.declared.fault.WayFault.{WayFault}
use Rattle.flow_ways.specs.WayTrees.{way_tree, Adds, HasReason}
use Rattle.flow_ways.proofs.CourseLists.{then_more}
use Rattle.flow_ways.specs.declared.fault.WayFault.TheVariants.{TooLarge, TooManyPaths}

-- faults

pub large_form : (e : FormFault) → way_fault_of e ≡ TooLarge → e ≡ form.TooLarge
large_form form.NoMemory h = absurd cc
large_form form.TooLarge h = refl

pub never_many : (e : FormFault) → way_fault_of e ≡ TooManyPaths → ⊥
never_many form.NoMemory h = absurd cc
never_many form.TooLarge h = absurd cc

-- a course that goes on, or stops

pub course_stops : (goes : Bool) (next : SymbolicRun) (o : Option SymbolicRun) (go : SymbolicRun → Outcome) → goes ≡ false → if_goes goes next ≡ o → outcome_if o go ≡ no_way
course_stops goes next o go t e = ap (λ x. outcome_if x go) (sym e ∙ ap (λ b. if_goes b next) t)

pub course_goes : (goes : Bool) (next : SymbolicRun) (o : Option SymbolicRun) (go : SymbolicRun → Outcome) → goes ≡ true → if_goes goes next ≡ o → outcome_if o go ≡ go next
course_goes goes next o go t e = ap (λ x. outcome_if x go) (sym e ∙ ap (λ b. if_goes b next) t)

-- the ways among all ways are those of the definition

ways-outcome_if : (o : Option SymbolicRun) (go : SymbolicRun → Outcome) (other : SymbolicRun → List Way) → ((c : SymbolicRun) → (go c).ways ≡ other c) → (outcome_if o go).ways ≡ ways_if o other
ways-outcome_if None go other f = refl
ways-outcome_if (Some c) go other f = f c

abbrev SameWays : (ℕ → SymbolicRun → Outcome) → (ℕ → SymbolicRun → List Way) → Type 0
SameWays go other = (k : ℕ) (c : SymbolicRun) → (go k c).ways ≡ other k c

ways-jump_outcome : (sorts : List Sort) (go : ℕ → SymbolicRun → Outcome) (other : ℕ → SymbolicRun → List Way) → SameWays go other → (jump : Jump) (c : SymbolicRun) → (jump_outcome sorts go jump c).ways ≡ jump_ways sorts other (jump_of jump) c
ways-jump_outcome sorts go other f (Goto k) c = f k c
ways-jump_outcome sorts go other f (Branch b k l) c =
    ap₂ (λ xs ys. xs ++ ys)
    (ways-outcome_if (with_test c (condition_on sorts c (cond_of b.items))) (go k) (other k) (f k))
    (ways-outcome_if (with_test c (opposite_cond (condition_on sorts c (cond_of b.items)))) (go l) (other l) (f l))
ways-jump_outcome sorts go other f (Return es) c = refl
ways-jump_outcome sorts go other f Abort c = refl

ways-block_outcome : (sorts : List Sort) (go : ℕ → SymbolicRun → Outcome) (other : ℕ → SymbolicRun → List Way) → SameWays go other → (o : Option ABlock) (c : SymbolicRun) → (block_outcome sorts go o c).ways ≡ block_ways sorts other (option_map block_of o) c
ways-block_outcome sorts go other f None c = refl
ways-block_outcome sorts go other f (Some block) c =
    ways-outcome_if (after_statements sorts (map statement_of block.statements.items) c) (jump_outcome sorts go block.jump) (jump_ways sorts other (jump_of block.jump))
    (ways-jump_outcome sorts go other f block.jump)

ways-target : (blocks : List ABlock) (sorts : List Sort) (p : ℕ → Bool) (n : ℕ) → SameWays (outcome_from blocks sorts p n) (ways_from (graph_of blocks) sorts p n) →
    SameWays (target_outcome blocks sorts p n) (λ l next. if p l then record { tests = next.tests; end = at_place l next.forms } ∷ [] else ways_from (graph_of blocks) sorts p n l next)
ways-target blocks sorts p n f k c = by_place (p k)
  where
    by_place : (b : Bool) → (if b then one_way (placed_way k c) else outcome_from blocks sorts p n k c).ways ≡ (if b then record { tests = c.tests; end = at_place k c.forms } ∷ [] else ways_from (graph_of blocks) sorts p n k c)
    by_place true = refl
    by_place false = f k c

ways-outcome_from : (blocks : List ABlock) (sorts : List Sort) (p : ℕ → Bool) (n : ℕ) → SameWays (outcome_from blocks sorts p n) (ways_from (graph_of blocks) sorts p n)
ways-outcome_from blocks sorts p zero k c = refl
ways-outcome_from blocks sorts p (suc n) k c =
    ways-block_outcome sorts (target_outcome blocks sorts p n) (λ l next. if p l then record { tests = next.tests; end = at_place l next.forms } ∷ [] else ways_from (graph_of blocks) sorts p n l next)
    (ways-target blocks sorts p n (ways-outcome_from blocks sorts p n)) (slice_get blocks k) c
    ∙ ap (λ o. block_ways sorts (λ l next. if p l then record { tests = next.tests; end = at_place l next.forms } ∷ [] else ways_from (graph_of blocks) sorts p n l next) o c) (sym (slice_get-map block_of blocks k))

pub all_ways_are : (blocks : List ABlock) (sorts : List Sort) (p : ℕ → Bool) (k : ℕ) → (all_ways blocks sorts p k).ways ≡ ways (graph_of blocks) sorts p k
all_ways_are blocks sorts p k =
    ways-outcome_from blocks sorts p (length blocks) k (first_course sorts)
    ∙ ap (λ n. ways_from (graph_of blocks) sorts p n k (first_course sorts)) (sym (length-map blocks block_of))

pub none_before : {X : Type 0} (xs : List X) → [] ++ xs ≡ xs
none_before xs = refl

-- one step of all ways

pub outcome_here : (blocks : List ABlock) (sorts : List Sort) (p : ℕ → Bool) (n m k : ℕ) (c : SymbolicRun) (o : Option ABlock) → n ≡ suc m → slice_get blocks k ≡ o → outcome_from blocks sorts p n k c ≡ block_outcome sorts (target_outcome blocks sorts p m) o c
outcome_here blocks sorts p n m k c o e f =
    ap (λ i. outcome_from blocks sorts p i k c) e ∙ ap (λ x. block_outcome sorts (target_outcome blocks sorts p m) x c) f

pub branch_is : (sorts : List Sort) (go : ℕ → SymbolicRun → Outcome) (b : Vec CondNode Global) (k l : ℕ) (c : SymbolicRun) (tree : FlowCondTree) (ns : List CondNode) → ns ≡ b.items → tree ≡ condition_on sorts c (cond_of ns) → cond_nodes_fit sorts c.forms ns ≡ true →
    branch_outcome c tree (go k) (go l) ≡ jump_outcome sorts go (Branch b k l) c
branch_is sorts go b k l c tree ns e m f =
    sym (ap₂ (λ fits t. if_fits fits (branch_outcome c t (go k) (go l)))
    (ap (λ xs. cond_nodes_fit sorts c.forms xs) (sym e) ∙ f)
    (ap (λ xs. condition_on sorts c (cond_of xs)) (sym e) ∙ sym m))

-- a block whose statements go on
pub block_is : (sorts : List Sort) (go : ℕ → SymbolicRun → Outcome) (block : ABlock) (ss : List Statement) (symbolic_run next : SymbolicRun) (goes : Bool) → ss ≡ block.statements.items → goes ≡ true → if_goes goes next ≡ after_statements sorts (map statement_of ss) symbolic_run → statements_fit sorts ss symbolic_run ≡ true →
    jump_outcome sorts go block.jump next ≡ block_outcome sorts go (Some block) symbolic_run
block_is sorts go block ss symbolic_run next goes e t after fit =
    sym (ap₂ (λ fits o. if_fits fits o)
    (ap (λ xs. statements_fit sorts xs symbolic_run) (sym e) ∙ fit)
    (course_goes goes next (after_statements sorts (map statement_of block.statements.items) symbolic_run) (jump_outcome sorts go block.jump) t (after ∙ ap (λ xs. after_statements sorts (map statement_of xs) symbolic_run) e)))

-- the ways of two outcomes, found one after the other

both_added : (o p : Outcome) (old mid new : Found) → Adds o old mid → Adds p mid new → Adds (together o p) old new
both_added o p old mid new a b = (
  then_more (map way_tree old.ways.items) (map way_tree mid.ways.items) (map way_tree new.ways.items) o.ways p.ways a.0 b.0,
  omega (arith, a.1, b.1),
  ap₂ (λ x y. x && y) a.2 b.2,
)

second_reason : (o p : Outcome) (old mid : Found) (e : WayFault) → Adds o old mid → HasReason p mid.count e → HasReason (together o p) old.count e
second_reason o p old mid e a h =
    ((λ large. ap₂ (λ x y. x && y) a.2 (h.0 large)), (λ many. let more = h.1 many in omega (arith, a.1, more)))

-- the second part of a branch, on the course of the first
other_part : (symbolic_run next : SymbolicRun) (b opposite : FlowCondTree) (go : SymbolicRun → Outcome) → next ≡ symbolic_run → opposite ≡ opposite_cond b → outcome_if (with_test next opposite) go ≡ outcome_if (with_test symbolic_run (opposite_cond b)) go
other_part symbolic_run next b opposite go e f = ap₂ (λ c x. outcome_if (with_test c x) go) e f

pub branch_added : (symbolic_run next : SymbolicRun) (b opposite : FlowCondTree) (go other : SymbolicRun → Outcome) (old mid new : Found) → next ≡ symbolic_run → opposite ≡ opposite_cond b →
    Adds (outcome_if (with_test symbolic_run b) go) old mid → Adds (outcome_if (with_test next opposite) other) mid new → Adds (branch_outcome symbolic_run b go other) old new
branch_added symbolic_run next b opposite go other old mid new e f first second =
    both_added (outcome_if (with_test symbolic_run b) go) (outcome_if (with_test symbolic_run (opposite_cond b)) other) old mid new first
    (subst (λ (o : Outcome). Adds o mid new) (other_part symbolic_run next b opposite other e f) second)

pub branch_reason : (symbolic_run next : SymbolicRun) (b opposite : FlowCondTree) (go other : SymbolicRun → Outcome) (old mid : Found) (fault : WayFault) → next ≡ symbolic_run → opposite ≡ opposite_cond b →
    Adds (outcome_if (with_test symbolic_run b) go) old mid → HasReason (outcome_if (with_test next opposite) other) mid.count fault → HasReason (branch_outcome symbolic_run b go other) old.count fault
branch_reason symbolic_run next b opposite go other old mid fault e f first second =
    second_reason (outcome_if (with_test symbolic_run b) go) (outcome_if (with_test symbolic_run (opposite_cond b)) other) old mid fault first
    (subst (λ (o : Outcome). HasReason o mid.count fault) (other_part symbolic_run next b opposite other e f) second)
