use Rattle.std.proofs.Common.{◌+◌, ◌-◌, List, length, take, drop, map, refl, ap, ◌∙◌, subst, arith}
use Rattle.std.proofs.lemmas.List.{take_rest, length-map}
use Rattle.while_lang.specs.Programs.{StmtTree}
use Rattle.while_lang.specs.ProgramViews.{stmt_tree, list_tree}
use Rattle.while_lang.specs.declared.prog.Stmt.{Stmt}
use Rattle.optimiser_steps.specs.Statements.{IsStmtInRange}
use Rattle.optimiser_steps.proofs.FirstSteps.{none_at_end}
use Rattle.optimiser_steps.proofs.Alternatives.{one_of_five}
use Rattle.optimiser_steps.proofs.Depths.{stmt_below, first_below, second_below, body_below}
use Rattle.optimiser_steps.proofs.ListedPrograms.{listed_in}
use Rattle.optimiser_steps.proofs.FoundSteps.{at_position, rest_in_range, stmt_in_range, found_at_position, none_at_position, found_in_first, none_in_first, found_in_second, none_in_second, found_in_body, none_in_body, none_in_if, none_in_loop, no_block_at, none_without_block}
use Rattle.optimiser_steps.proofs.search.+search.Goals as goal

pub first_step_in-step_here-requires-clause-list : goal.first_step_in-step_here-requires-clause-list
first_step_in-step_here-requires-clause-list t c =
    let list = c.args.list.now in
    let i = c.loop-i.i in
    rest_in_range c.args.file.now list (take (length list - i) (drop i list)) i (take_rest list i) c.requires.list

pub first_step_in-returns-in-Some : goal.first_step_in-returns-in-Some
first_step_in-returns-in-Some t c =
    let list = c.args.list.now in
    let i = c.loop-i.i in
    found_at_position c.args.file.now list i c.loop-i.invariant c.in-Some.made c.in_ok-found_here.field-0 (take (length list - i) (drop i list)) (omega arith) (take_rest list i)
    (rw c.in-Some.is at c.in_ok-made.ensures) c.in_ok-found_here.ensures.step c.in_ok-found_here.ensures.path c.in_ok-found_here.ensures.list

pub first_step_in-step_inside-requires : goal.first_step_in-step_inside-requires
first_step_in-step_inside-requires t c =
    let list = c.args.list.now in
    let ss : List StmtTree = map stmt_tree list in
    let i = c.loop-i.i in
    let at = at_position list i c.index-list-i.result c.loop-i-test.true c.index-list-i.is in
    let none = none_at_position c.args.file.now list i c.loop-i.invariant (take (length list - i) (drop i list)) (take_rest list i) (rw c.in_default.is at c.in_ok-made.ensures) in
    let below = stmt_below list i c.index-list-i.result c.loop-i-test.true c.index-list-i.is in
    (omega (arith, c.decreases, below), (c.requires.hyps, (stmt_in_range c.args.file.now ss (drop (i + 1) ss) i (stmt_tree c.index-list-i.result) at c.requires.list, (at, (c.loop-i-test.true, none)))))

pub first_step_in-returns : goal.first_step_in-returns
first_step_in-returns t c =
    let ss : List StmtTree = map stmt_tree c.args.list.now in
    none_at_end c.args.file.now ss c.loop-i.i (omega (arith, length-map c.args.list.now stmt_tree)) c.loop-i.invariant

pub step_inside-first_step_in-requires : goal.step_inside-first_step_in-requires
step_inside-first_step_in-requires t c =
    let range = subst (λ (s : Stmt). IsStmtInRange c.args.file.now (stmt_tree s)) c.in-If.is c.requires.range in
    let view = ap list_tree c.deref.ensures.value ∙ c.p.view_is in
    let below = first_below c.args.stmt.now c.in-If.b c.in-If.p c.in-If.q c.deref.result.now c.in-If.is view in
    (omega (arith, c.decreases, below), (c.requires.hyps, listed_in c.args.file.now c.deref.result.now c.in-If.p view range.1))

pub step_inside-returns-in-Some : goal.step_inside-returns-in-Some
step_inside-returns-in-Some t c =
    let ss : List StmtTree = map stmt_tree c.args.list.now in
    let k = c.args.position in
    found_in_first c.args.file.now ss k (stmt_tree c.args.stmt.now) (drop (k + 1) ss) _ _ _ c.requires.stmt (ap stmt_tree c.in-If.is) c.deref.result.now (ap list_tree c.deref.ensures.value ∙ c.p.view_is)
    c.requires.none c.in-Some.inner c.in_ok-found-in-If.found _ _ (rw c.in-Some.is at c.in_ok-inner-in-If.ensures)
    c.in_ok-found-in-If.ensures.step c.in_ok-found-in-If.ensures.path c.in_ok-found-in-If.ensures.list refl refl

pub step_inside-first_step_in-requires-in-If : goal.step_inside-first_step_in-requires-in-If
step_inside-first_step_in-requires-in-If t c =
    let range = subst (λ (s : Stmt). IsStmtInRange c.args.file.now (stmt_tree s)) c.in-If.is c.requires.range in
    let view = ap list_tree c.deref-in-If.ensures.value ∙ c.q.view_is in
    let below = second_below c.args.stmt.now c.in-If.b c.in-If.p c.in-If.q c.deref-in-If.result.now c.in-If.is view in
    (omega (arith, c.decreases, below), (c.requires.hyps, listed_in c.args.file.now c.deref-in-If.result.now c.in-If.q view range.2))

pub step_inside-returns-in-Some-2 : goal.step_inside-returns-in-Some-2
step_inside-returns-in-Some-2 t c =
    let f = c.args.file.now in
    let ss : List StmtTree = map stmt_tree c.args.list.now in
    let k = c.args.position in
    let s : StmtTree = stmt_tree c.args.stmt.now in
    let none = none_in_first f ss k s (drop (k + 1) ss) _ _ _ c.requires.stmt (ap stmt_tree c.in-If.is) c.deref.result.now (ap list_tree c.deref.ensures.value ∙ c.p.view_is)
    c.requires.none (rw c.in_default.is at c.in_ok-inner-in-If.ensures) in
    found_in_second f ss k s (drop (k + 1) ss) _ _ _ c.requires.stmt (ap stmt_tree c.in-If.is) c.deref-in-If.result.now (ap list_tree c.deref-in-If.ensures.value ∙ c.q.view_is)
    none c.in-Some-2.inner c.in_ok-found-in-If-2.found _ _ (rw c.in-Some-2.is at c.in_ok-inner-in-If-2.ensures)
    c.in_ok-found-in-If-2.ensures.step c.in_ok-found-in-If-2.ensures.path c.in_ok-found-in-If-2.ensures.list refl refl

pub step_inside-first_step_in-requires-in-While : goal.step_inside-first_step_in-requires-in-While
step_inside-first_step_in-requires-in-While t c =
    let range = subst (λ (s : Stmt). IsStmtInRange c.args.file.now (stmt_tree s)) c.in-While.is c.requires.range in
    let view = ap list_tree c.deref-in-While.ensures.value ∙ c.p-in-While.view_is in
    let below = body_below c.args.stmt.now c.in-While.b c.in-While.p c.deref-in-While.result.now c.in-While.is view in
    (omega (arith, c.decreases, below), (c.requires.hyps, listed_in c.args.file.now c.deref-in-While.result.now c.in-While.p view range.1))

pub step_inside-returns-in-Some-3 : goal.step_inside-returns-in-Some-3
step_inside-returns-in-Some-3 t c =
    let ss : List StmtTree = map stmt_tree c.args.list.now in
    let k = c.args.position in
    found_in_body c.args.file.now ss k (stmt_tree c.args.stmt.now) (drop (k + 1) ss) _ _ c.requires.stmt (ap stmt_tree c.in-While.is) c.deref-in-While.result.now
    (ap list_tree c.deref-in-While.ensures.value ∙ c.p-in-While.view_is)
    c.requires.none c.in-Some-3.inner c.in_ok-found-in-While.found _ (rw c.in-Some-3.is at c.in_ok-inner-in-While.ensures)
    c.in_ok-found-in-While.ensures.step c.in_ok-found-in-While.ensures.path c.in_ok-found-in-While.ensures.list refl

pub step_inside-returns-in_default-2 : goal.step_inside-returns-in_default-2
step_inside-returns-in_default-2 t c =
    let f = c.args.file.now in
    let ss : List StmtTree = map stmt_tree c.args.list.now in
    let k = c.args.position in
    let s : StmtTree = stmt_tree c.args.stmt.now in
    let none = none_in_first f ss k s (drop (k + 1) ss) _ _ _ c.requires.stmt (ap stmt_tree c.in-If.is) c.deref.result.now (ap list_tree c.deref.ensures.value ∙ c.p.view_is)
    c.requires.none (rw c.in_default.is at c.in_ok-inner-in-If.ensures) in
    none_in_if f ss k s (drop (k + 1) ss) _ _ _ c.requires.stmt (ap stmt_tree c.in-If.is)
    (none_in_second f ss k s (drop (k + 1) ss) _ _ _ c.requires.stmt (ap stmt_tree c.in-If.is) c.deref-in-If.result.now (ap list_tree c.deref-in-If.ensures.value ∙ c.q.view_is)
    none (rw c.in_default-2.is at c.in_ok-inner-in-If-2.ensures))

pub step_inside-returns-in_default-3 : goal.step_inside-returns-in_default-3
step_inside-returns-in_default-3 t c =
    let f = c.args.file.now in
    let ss : List StmtTree = map stmt_tree c.args.list.now in
    let k = c.args.position in
    let s : StmtTree = stmt_tree c.args.stmt.now in
    none_in_loop f ss k s (drop (k + 1) ss) _ _ c.requires.stmt (ap stmt_tree c.in-While.is)
    (none_in_body f ss k s (drop (k + 1) ss) _ _ c.requires.stmt (ap stmt_tree c.in-While.is) c.deref-in-While.result.now (ap list_tree c.deref-in-While.ensures.value ∙ c.p-in-While.view_is)
    c.requires.none (rw c.in_default-3.is at c.in_ok-inner-in-While.ensures))

pub step_inside-returns-in-Skip : goal.step_inside-returns-in-Skip
step_inside-returns-in-Skip t c =
    let ss : List StmtTree = map stmt_tree c.args.list.now in
    let k = c.args.position in
    none_without_block c.args.file.now ss k (stmt_tree c.args.stmt.now) (drop (k + 1) ss) c.requires.stmt
    (one_of_five c.in-Skip.is
    (λ e. no_block_at c.args.file.now _ _ e (λ i. refl)) (λ e. no_block_at c.args.file.now _ _ e (λ i. refl)) (λ w. no_block_at c.args.file.now _ _ w.1 (λ i. refl))
    (λ w. no_block_at c.args.file.now _ _ w.1 (λ i. refl)) (λ w. no_block_at c.args.file.now _ _ w.2 (λ i. refl))) c.requires.none
