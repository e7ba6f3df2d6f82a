use Rattle.std.proofs.Common.{◌≡◌, length, map, refl, ap, ◌∙◌, arith}
use Rattle.std.proofs.lemmas.List.{length_push}
use Rattle.while_lang.specs.Programs.{ProgTree}
use Rattle.while_lang.specs.ProgramViews.{stmt_tree, list_tree}
use Rattle.optimiser_steps.specs.Logs.{LogLineParts}
use Rattle.optimiser_steps.proofs.LogMeanings.{step_in_range, logs_keep}
use Rattle.optimiser_steps.specs.declared.optimising.Ended.TheVariants.{Done, TurnLimit}
use Rattle.optimiser_steps.proofs.ListedPrograms.{listed, listed_in}
use Rattle.optimiser_steps.proofs.Endings.{finished_by_list, step_by_list, has_by_list, log_grows, done_at_end, limit_at_end, done_at_limit, limit_at_limit}
use Rattle.optimiser_steps.proofs.optimising.optimise.Goals as goal

pub first_step_in-requires-clause-list : goal.first_step_in-requires-clause-list
first_step_in-requires-clause-list c =
    listed_in c.args.file.now c.deref.result.now c.loop-log.current (ap list_tree c.deref.ensures.value ∙ c.current.view_is) c.loop-log.invariant.range.prog

pub loop-log-preserved : goal.loop-log-preserved
loop-log-preserved c =
    let f = c.args.file.now in
    let p : ProgTree = c.loop-log.current in
    let before = c.loop-log.invariant in
    let line : LogLineParts = record { step = c.in-Some.found.step; path = c.in-Some.found.path.items } in
    let next : ProgTree = list_tree c.in-Some.found.list.items in
    let step = step_by_list f p (map stmt_tree c.deref.result.now) c.in-Some.found (listed c.deref.result.now p (ap list_tree c.deref.ensures.value ∙ c.current.view_is)) (rw c.in-Some.is at c.in_ok-found.ensures) in
    rw c.in_ok-push.ensures.items
    (record {
      chain = log_grows f c.args.prog.now p next c.loop-log.log.items line before.chain step;
      range = step_in_range f p next line before.range step;
      turns = rw (length_push c.loop-log.log.items line) (omega arith);
    })

pub returns-then-left-eq0-clause-done : goal.returns-then-left-eq0-clause-done
returns-then-left-eq0-clause-done c =
    let f = c.args.file.now in
    let p : ProgTree = c.loop-log.current in
    let list = listed c.deref.result.now p (ap list_tree c.deref.ensures.value ∙ c.current.view_is) in
    done_at_limit f p TurnLimit refl (has_by_list f p (map stmt_tree c.deref.result.now) c.in-Some.found list (rw c.in-Some.is at c.in_ok-found.ensures))

pub returns-then-left-eq0-clause-limit : goal.returns-then-left-eq0-clause-limit
returns-then-left-eq0-clause-limit c =
    let f = c.args.file.now in
    let p : ProgTree = c.loop-log.current in
    let list = listed c.deref.result.now p (ap list_tree c.deref.ensures.value ∙ c.current.view_is) in
    limit_at_limit f p TurnLimit (length c.loop-log.log.items ≡ c.args.turns) refl (omega arith)
    (has_by_list f p (map stmt_tree c.deref.result.now) c.in-Some.found list (rw c.in-Some.is at c.in_ok-found.ensures))

pub returns-then-left-eq0-clause-kept_in_tables : goal.returns-then-left-eq0-clause-kept_in_tables
returns-then-left-eq0-clause-kept_in_tables c = (logs_keep c.args.file.now c.args.prog.now c.loop-log.current c.loop-log.log.items c.requires c.loop-log.invariant.chain).in_tables

pub returns-then-left-eq0-clause-kept_from_stores : goal.returns-then-left-eq0-clause-kept_from_stores
returns-then-left-eq0-clause-kept_from_stores c = (logs_keep c.args.file.now c.args.prog.now c.loop-log.current c.loop-log.log.items c.requires c.loop-log.invariant.chain).from_stores

pub returns-clause-done : goal.returns-clause-done
returns-clause-done c =
    let f = c.args.file.now in
    let p : ProgTree = c.loop-log.current in
    let list = listed c.deref.result.now p (ap list_tree c.deref.ensures.value ∙ c.current.view_is) in
    done_at_end f p Done refl (finished_by_list f p (map stmt_tree c.deref.result.now) list (rw c.in_default.is at c.in_ok-found.ensures))

pub returns-clause-limit : goal.returns-clause-limit
returns-clause-limit c =
    let f = c.args.file.now in
    let p : ProgTree = c.loop-log.current in
    let list = listed c.deref.result.now p (ap list_tree c.deref.ensures.value ∙ c.current.view_is) in
    limit_at_end f p Done (length c.loop-log.log.items ≡ c.args.turns) refl (finished_by_list f p (map stmt_tree c.deref.result.now) list (rw c.in_default.is at c.in_ok-found.ensures))

pub returns-clause-kept_in_tables : goal.returns-clause-kept_in_tables
returns-clause-kept_in_tables c = (logs_keep c.args.file.now c.args.prog.now c.loop-log.current c.loop-log.log.items c.requires c.loop-log.invariant.chain).in_tables

pub returns-clause-kept_from_stores : goal.returns-clause-kept_from_stores
returns-clause-kept_from_stores c = (logs_keep c.args.file.now c.args.prog.now c.loop-log.current c.loop-log.log.items c.requires c.loop-log.invariant.chain).from_stores
