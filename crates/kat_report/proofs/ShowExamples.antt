-- A worked example: the text of an abstraction, written by hand.
use Rattle.std.proofs.Common.{◌≡◌, ℕ, List, [], ◌++◌, append_assoc, sym, ap, ◌∙◌}
use Rattle.std.specs.Prelude.{codes}
use Rattle.std.specs.Fmt.{digits}
use Rattle.kat_model.specs.Expressions.{number, variable, plus, always, compared}
use Rattle.kat_model.specs.declared.expression.Rel.TheVariants.{Eq}
use Rattle.kat_model.specs.declared.expression.Width.TheVariants.{W64}
use Rattle.text_parser.specs.declared.meaning.Meaning.TheVariants.{Var}
use Rattle.text_parser.specs.ScopeParts.{ScopeParts, IsNameOf}
use Rattle.text_print.specs.Printing.{name_of}
use Rattle.text_print.proofs.NameOf.{name_is}
use Rattle.while_lang.specs.Programs.{empty, assign_then}
use Rattle.while_lang.specs.Files.{prog_side, triple, FileParts}
use Rattle.abstraction.specs.Abstracts.{abstract_parts}
use Rattle.kat_report.specs.Shows.{show_text}

-- rounds 1; goal triple {true} { x := 18446744073709551615; x := x + 1; } {x == 0};
abbrev wrap_around : ScopeParts → FileParts
wrap_around w = record {
  scope = w;
  tests = 0;
  actions = 0;
  vars = 1;
  terms = 0;
  progs = [];
  prog_names = [];
  hyps = [];
  rounds = 1;
  goal = triple always (prog_side (assign_then 0 (number 18446744073709551615) (assign_then 0 (plus (variable 0) (number 1)) empty))) (compared Eq (variable 0) (number 0));
  width = W64;
}

-- the printed text, where x is the name of its variable
abbrev text_with : List ℕ → List ℕ
text_with x =
    codes "# t0 is " ++ (x ++ (codes " == 0\n# t1 is " ++ (x ++ (codes " + 1 == 0\ntest t0, t1;\n"
    ++ (codes "# a0 is " ++ (x ++ (codes " := 18446744073709551615\n# a1 is " ++ (x ++ (codes " := " ++ (x ++ (codes " + 1\naction a0, a1;\n"
    ++ (codes "# assign a0 t0\nhyp ([false].(a0.[!t0])) = 0;\nhyp ([!false].(a0.t0)) = 0;\n"
    ++ (codes "# assign a0 t1\nhyp ([true].(a0.[!t1])) = 0;\nhyp ([!true].(a0.t1)) = 0;\n"
    ++ (codes "# assign a1 t0\nhyp (t1.(a1.[!t0])) = 0;\nhyp ([!t1].(a1.t0)) = 0;\n"
    ++ (codes "# F1 t0 t1\nhyp (t0.t1) = 0;\n"
    ++ codes "goal equal ([true].((a0.a1).[!t0])), 0;\n")))))))))))))))

text_computed : (w : ScopeParts) → show_text w (abstract_parts (wrap_around w)) ≡ text_with (name_of w (Var 0))
unfolding digits
text_computed w = simp append_assoc

text_of_wrap_around : (w : ScopeParts) → IsNameOf w (codes "x") (Var 0) → show_text w (abstract_parts (wrap_around w))
    ≡ codes "# t0 is x == 0\n" ++ codes "# t1 is x + 1 == 0\n" ++ codes "test t0, t1;\n"
    ++ codes "# a0 is x := 18446744073709551615\n" ++ codes "# a1 is x := x + 1\n" ++ codes "action a0, a1;\n"
    ++ codes "# assign a0 t0\n" ++ codes "hyp ([false].(a0.[!t0])) = 0;\n" ++ codes "hyp ([!false].(a0.t0)) = 0;\n"
    ++ codes "# assign a0 t1\n" ++ codes "hyp ([true].(a0.[!t1])) = 0;\n" ++ codes "hyp ([!true].(a0.t1)) = 0;\n"
    ++ codes "# assign a1 t0\n" ++ codes "hyp (t1.(a1.[!t0])) = 0;\n" ++ codes "hyp ([!t1].(a1.t0)) = 0;\n"
    ++ codes "# F1 t0 t1\n" ++ codes "hyp (t0.t1) = 0;\n"
    ++ codes "goal equal ([true].((a0.a1).[!t0])), 0;\n"
text_of_wrap_around w named = text_computed w ∙ ap text_with (sym (name_is w (Var 0) (codes "x") named))
