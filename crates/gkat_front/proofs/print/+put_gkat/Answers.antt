use Rattle.std.proofs.Common.{sym, ap, ◌∙◌}
use Rattle.std.proofs.lemmas.Result.{on_ok_weaker}
use Rattle.kat_model.specs.Trees.{test_tree}
use Rattle.text_print.specs.Printing.{name_of}
use Rattle.gkat_front.specs.Expressions.{gkat_tree}
use Rattle.gkat_front.specs.Printing.{is_loop}
use Rattle.gkat_front.specs.declared.gkat.Gkat.{Gkat}
use Rattle.gkat_front.proofs.WrittenGkat.{product_written, choice_written, loop_written}
use Rattle.gkat_front.proofs.print.+put_gkat.Goals as goal

pub returns-in_ok-put_gkat-in-Seq-2 : goal.returns-in_ok-put_gkat-in-Seq-2
returns-in_ok-put_gkat-in-Seq-2 t c =
    rw (c.in-Seq.is, ← c.deref.ensures, ← c.deref-in-Seq.ensures)
    (on_ok_weaker c.append-in-Seq-2.result
    (product_written (name_of c.args.scope.now) c.args.out.now.items c.append.new.list.items c.put_gkat.new.out.items c.append-in-Seq.new.list.items c.append-in-Seq-2.new.list.items
    c.put_gkat-in-Seq.new.out.items (gkat_tree c.deref.result.now) (gkat_tree c.deref-in-Seq.result.now)
    c.in_ok-append-in-Seq.ensures c.in_ok-put_gkat-in-Seq.ensures c.in_ok-append-in-Seq-2.ensures c.in_ok-put_gkat-in-Seq-2.ensures)
    c.append-in-Seq-2.ensures)

pub returns-in_ok-put_gkat-in-Choice-2 : goal.returns-in_ok-put_gkat-in-Choice-2
returns-in_ok-put_gkat-in-Choice-2 t c =
    rw (c.in-Choice.is, ← c.deref-in-Choice.ensures, ← c.deref-in-Choice-2.ensures)
    (on_ok_weaker c.append-in-Choice-2.result
    (choice_written (name_of c.args.scope.now) c.args.out.now.items c.append-in-Choice.new.list.items c.put_gkat-in-Choice.new.out.items c.put_choice_mark.new.out.items c.append-in-Choice-2.new.list.items
    c.put_gkat-in-Choice-2.new.out.items (test_tree c.in-Choice.b) (gkat_tree c.deref-in-Choice.result.now) (gkat_tree c.deref-in-Choice-2.result.now)
    c.in_ok-append-in-Choice.ensures c.in_ok-put_gkat-in-Choice.ensures c.in_ok-put_choice_mark-in-Choice.ensures c.in_ok-put_gkat-in-Choice-2.ensures)
    c.append-in-Choice-2.ensures)

pub returns-in_ok-put_round-in-Loop-2 : goal.returns-in_ok-put_round-in-Loop-2
returns-in_ok-put_round-in-Loop-2 t c =
    let first = c.is_loop.ensures ∙ ap (λ (e : Gkat). is_loop (gkat_tree e)) (c.deref-in-Loop.ensures ∙ sym c.deref-in-Loop-2.ensures) in
    let again = c.is_loop-in-Loop.ensures ∙ ap (λ (e : Gkat). is_loop (gkat_tree e)) (c.deref-in-Loop-3.ensures ∙ sym c.deref-in-Loop-2.ensures) in
    rw (c.in-Loop.is, ← c.deref-in-Loop-2.ensures)
    (on_ok_weaker c.put_turns.result
    (loop_written (name_of c.args.scope.now) c.args.out.now.items c.put_round.new.out.items c.put_gkat-in-Loop.new.out.items c.put_round-in-Loop.new.out.items c.put_turns.new.out.items
    (test_tree c.in-Loop.b) (gkat_tree c.deref-in-Loop-2.result.now) c.is_loop.result c.is_loop-in-Loop.result first again
    c.in_ok-put_round-in-Loop.ensures c.in_ok-put_gkat-in-Loop.ensures c.in_ok-put_round-in-Loop-2.ensures)
    c.put_turns.ensures)
