-- A run that ended ends alike within more blocks, so it has one end.
use Rattle.std.proofs.Common.{◌≡◌, ◌+◌, ℕ, zero, suc, List, refl, sym, ◌∙◌, ap, subst, arith, Option, Some, None, slice_get, if◌then◌else◌}
use Rattle.flow_model.specs.Sorts.{State}
use Rattle.flow_model.specs.Graphs.{JumpTree, goto, branch, return, abort, Block, Graph}
use Rattle.flow_model.specs.Interpretations.{Interpretation, holds}
use Rattle.flow_model.specs.Runs.{End, returned, stuck, unfinished, jumped, jumped_after, through, run_from, after_statements, Returns, Sticks}

-- the run ended
abbrev pub IsEnd : End → Type 0
IsEnd (returned vs) = Unit {0}
IsEnd stuck = Unit {0}
IsEnd unfinished = ⊥

-- `g` ends as `f` where `f` ends
abbrev pub EndsAs : (ℕ → State → End) → (ℕ → State → End) → Type 0
EndsAs f g = (k : ℕ) (s : State) → IsEnd (f k s) → g k s ≡ f k s

jump_kept : (I : Interpretation) (f g : ℕ → State → End) (j : JumpTree) (s : State) → EndsAs f g → IsEnd (jumped I f j s) → jumped I g j s ≡ jumped I f j s
jump_kept I f g (goto k) s h e = h k s e
jump_kept I f g (branch b k l) s h e = h (if holds I s b then k else l) s e
jump_kept I f g (return es) s h e = refl
jump_kept I f g abort s h e = refl

after_kept : (I : Interpretation) (f g : ℕ → State → End) (j : JumpTree) (o : Option State) → EndsAs f g → IsEnd (jumped_after I f j o) → jumped_after I g j o ≡ jumped_after I f j o
after_kept I f g j None h e = refl
after_kept I f g j (Some s) h e = jump_kept I f g j s h e

through_kept : (I : Interpretation) (f g : ℕ → State → End) (s : State) (b : Option Block) → EndsAs f g → IsEnd (through I f s b) → through I g s b ≡ through I f s b
through_kept I f g s None h e = refl
through_kept I f g s (Some b) h e = after_kept I f g b.jump (after_statements I s b.statements) h e

-- within more blocks, the run ends as before
pub run_kept : (I : Interpretation) (g : Graph) (n d : ℕ) → EndsAs (run_from I g n) (run_from I g (n + d))
run_kept I g zero d k s e = absurd e
run_kept I g (suc n) d k s e =
    let more : suc n + d ≡ suc (n + d) = omega arith in
    rw (more) (through_kept I (run_from I g n) (run_from I g (n + d)) s (slice_get g k) (run_kept I g n d) e)

-- two runs from one place that ended have one end
pub ends_alike : (I : Interpretation) (g : Graph) (n m k : ℕ) (s : State) → IsEnd (run_from I g n k s) → IsEnd (run_from I g m k s) → run_from I g n k s ≡ run_from I g m k s
ends_alike I g n m k s a b =
    let converse : n + m ≡ m + n = omega arith in
    sym (run_kept I g n m k s a) ∙ (ap (λ i. run_from I g i k s) converse ∙ run_kept I g m n k s b)

one_list : (vs ws : List ℕ) → returned vs ≡ returned ws → vs ≡ ws
one_list vs ws e = cc

pub returns_one : (I : Interpretation) (g : Graph) (s : State) (vs ws : List ℕ) → Returns I g s vs → Returns I g s ws → vs ≡ ws
returns_one I g s vs ws (n, p) (m, q) =
    one_list vs ws (sym p ∙ (ends_alike I g n m 0 s (subst IsEnd (sym p) tt) (subst IsEnd (sym q) tt) ∙ q))

never_stuck : (vs : List ℕ) → returned vs ≡ stuck → ⊥
never_stuck vs e = absurd cc

pub returns_unstuck : (I : Interpretation) (g : Graph) (s : State) (vs : List ℕ) → Returns I g s vs → Sticks I g s → ⊥
returns_unstuck I g s vs (n, p) (m, q) =
    never_stuck vs (sym p ∙ (ends_alike I g n m 0 s (subst IsEnd (sym p) tt) (subst IsEnd (sym q) tt) ∙ q))
