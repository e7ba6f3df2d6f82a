-- Values in states that agree on the variables that are read, by the law of live variables on a graph of one block.
use Rattle.std.proofs.Common.{◌≡◌, ℕ, zero, suc, Bool, true, false, ◌||◌, List, [], ◌∷◌, length, Some, None, slice_get, refl, sym, subst, if◌then◌else◌}
use Rattle.kat_model.specs.Members.{Has}
use Rattle.flow_model.specs.Sorts.{State}
use Rattle.flow_model.specs.Expressions.{ExprTree}
use Rattle.flow_model.specs.Conditions.{CondTree}
use Rattle.flow_model.specs.Graphs.{StatementTree, claim, return, Block, Graph}
use Rattle.flow_model.specs.Interpretations.{Interpretation, value, holds}
use Rattle.flow_ways.specs.Liveness.{reads, cond_reads, live_before, jump_reads, jump_targets, IsLive, is_read, is_left, StopsAgree}
use Rattle.flow_ways.specs.Stops.{unfinished, jump_stop_if}
use Rattle.flow_ways.proofs.LiveRuns.{Agree, runs_alike}

-- a graph of one block that returns
abbrev one_return : List StatementTree → List ExprTree → Graph
one_return stmts es = record { is_cut = false; statements = stmts; jump = return es } ∷ []

the_block : (stmts : List StatementTree) (es : List ExprTree) (k : ℕ) (block : Block) → slice_get (one_return stmts es) k ≡ Some block → record { is_cut = false; statements = stmts; jump = return es } ≡ block
the_block stmts es zero block e = cc
the_block stmts es (suc k) block e = absurd cc

-- what is live there is read there
live_there : (stmts : List StatementTree) (es : List ExprTree) (x k : ℕ) → IsLive (one_return stmts es) x k → live_before x stmts (jump_reads x (return es)) ≡ true
live_there stmts es x k (is_read j block e r) = subst (λ b. live_before x b.statements (jump_reads x b.jump) ≡ true) (sym (the_block stmts es j block e)) r
live_there stmts es x k (is_left j l block e h r live) = absurd (subst (λ b. Has (jump_targets b.jump) l) (sym (the_block stmts es j block e)) h)

or_false : (b : Bool) → (b || false) ≡ true → b ≡ true
or_false true e = refl
or_false false e = e

pub value_agrees : (I : Interpretation) (s t : State) (e : ExprTree) → length s ≡ length t → Agree (λ x. reads x e) s t → value I s e ≡ value I t e
value_agrees I s t e l h =
    let same : (value I s e ∷ []) ≡ (value I t e ∷ []) = runs_alike I (one_return [] (e ∷ [])) (λ k. false) (tt, tt) 1 0 s t l (λ x live. h x (or_false (reads x e) (live_there [] (e ∷ []) x 0 live))) in
    cc

pub holds_agrees : (I : Interpretation) (s t : State) (b : CondTree) → length s ≡ length t → Agree (λ x. cond_reads x b) s t → holds I s b ≡ holds I t b
holds_agrees I s t b l h =
    by_truth (holds I s b) (holds I t b)
    (runs_alike I (one_return (claim b ∷ []) []) (λ k. false) (tt, tt) 1 0 s t l (λ x live. h x (or_false (cond_reads x b) (live_there (claim b ∷ []) [] x 0 live))))
  where
    by_truth : (c d : Bool) →
        StopsAgree (one_return (claim b ∷ []) []) (jump_stop_if I (λ k u. unfinished) (return []) (if c then Some s else None)) (jump_stop_if I (λ k u. unfinished) (return []) (if d then Some t else None)) → c ≡ d
    by_truth true true a = refl
    by_truth false false a = refl
    by_truth true false a = absurd a
    by_truth false true a = absurd a
