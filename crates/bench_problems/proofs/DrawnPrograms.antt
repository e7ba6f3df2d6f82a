-- The drawn programs, level by level.
use Rattle.std.proofs.Common.{◌≡◌, ◌≢◌, ℕ, zero, suc, List, [], ◌∷◌, ◌++◌, map, refl, sym, ap, ◌∙◌, arith}
use Rattle.std.proofs.lemmas.List.{map-append}
use Rattle.while_lang.specs.Flows.{FlowStmt, skip, abort, assert, act, branch, loop, flow_of, skip_then, abort_then, assert_then, act_then, branch_then, loop_then}
use Rattle.while_lang.specs.FlowViews.{flow_stmt, flows_tree}
use Rattle.while_lang.specs.declared.flow.Flow.{Flow}
use Rattle.bench_problems.specs.Generator.{Drawn, drawn_action, drawn_by, drawn_number, next_state, drawn_program, followed_by}

pub drawn_program-none : (d s : ℕ) → d ≡ 0 → drawn_program d s ≡ drawn_action s
unfolding drawn_program
drawn_program-none zero s h = refl
drawn_program-none (suc d) s h = absurd (omega arith)

-- the drawn program, by the first number drawn
drawn_program-more : (d e s n : ℕ) → d ≡ suc e → n ≡ drawn_number s → drawn_program d s ≡ drawn_by (drawn_program e) n (next_state s)
unfolding drawn_program
drawn_program-more d e s n h is = rw (h, is) refl

pub drawn_more : (d e s n t : ℕ) (p : Drawn) → d ≡ suc e → n ≡ drawn_number s → t ≡ next_state s → p ≡ drawn_by (drawn_program e) n t → p ≡ drawn_program d s
drawn_more d e s n t p h is at made = made ∙ ap (drawn_by (drawn_program e) n) at ∙ sym (drawn_program-more d e s n h is)

pub drawn_by-other : (draw : ℕ → Drawn) (n s : ℕ) → n ≢ 0 → n ≢ 1 → n ≢ 2 → drawn_by draw n s ≡ drawn_by draw 3 s
drawn_by-other draw zero s a b c = absurd (a refl)
drawn_by-other draw (suc zero) s a b c = absurd (b refl)
drawn_by-other draw (suc (suc zero)) s a b c = absurd (c refl)
drawn_by-other draw (suc (suc (suc n))) s a b c = refl

-- ---- one program and then another

flow_of-append : (ss ts : List FlowStmt) → flow_of (ss ++ ts) ≡ followed_by (flow_of ss) (flow_of ts)
flow_of-append [] ts = refl
flow_of-append (skip ∷ ss) ts = ap skip_then (flow_of-append ss ts)
flow_of-append (abort ∷ ss) ts = ap abort_then (flow_of-append ss ts)
flow_of-append (assert b ∷ ss) ts = ap (assert_then b) (flow_of-append ss ts)
flow_of-append (act a ∷ ss) ts = ap (act_then a) (flow_of-append ss ts)
flow_of-append (branch b f g ∷ ss) ts = ap (branch_then b f g) (flow_of-append ss ts)
flow_of-append (loop b f ∷ ss) ts = ap (loop_then b f) (flow_of-append ss ts)

pub flows_tree-append : (fs gs : List Flow) → flows_tree (fs ++ gs) ≡ followed_by (flows_tree fs) (flows_tree gs)
flows_tree-append fs gs = ap flow_of (map-append flow_stmt fs gs) ∙ flow_of-append (map flow_stmt fs) (map flow_stmt gs)
