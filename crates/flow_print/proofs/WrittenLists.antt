-- Loops that write the members of a list: the text so far, with the text of another member.
use Rattle.std.proofs.Common.{◌≡◌, ◌<◌, ◌≤◌, ◌+◌, ℕ, List, [], ◌∷◌, ◌++◌, length, map, drop, get_or, Bool, false, Option, sym, ap, ◌∙◌, append_assoc}
use Rattle.std.specs.List.{enumerate_from}
use Rattle.std.proofs.lemmas.List.{append-nil, drop_more, drop_all}
use Rattle.kat_model.specs.declared.expression.Width.{Width}
use Rattle.flow_forms.specs.declared.form.FlowForm.{FlowForm}
use Rattle.flow_forms.specs.Forms.{FlowFormTree, form_tree}
use Rattle.flow_ways.specs.declared.way.SortedForm.{SortedForm}
use Rattle.flow_ways.specs.ActionTrees.{set_tree}
use Rattle.flow_ways.specs.WayTrees.{sorted_form}
use Rattle.problem_file.specs.CommentedTexts.{comment_text, comments_text}
use Rattle.flow_print.specs.NameTables.{NameTable, sort_width}
use Rattle.flow_print.specs.FormTexts.{comma_text, form_text}
use Rattle.flow_print.specs.ActionTexts.{stays_first, results_text}

part_written : (out now part all rest whole : List ℕ) → now ≡ out ++ part → all ≡ part ++ rest → out ++ all ≡ whole → now ++ rest ≡ whole
part_written out now part all rest whole added parts invariant =
    ap (λ (l : List ℕ). l ++ rest) added ∙ append_assoc out part rest ∙ sym (ap (λ (l : List ℕ). out ++ l) parts) ∙ invariant

-- no member is left
pub all_written : {A X : Type 0} (view : A → X) (text : List X → List ℕ) → text [] ≡ [] → (xs : List A) (i : ℕ) (out whole : List ℕ) → length xs ≤ i → out ++ text (map view (drop i xs)) ≡ whole → out ≡ whole
all_written view text none xs i out whole past invariant =
    sym (append-nil out) ∙ ap (λ (l : List ℕ). out ++ l) (sym none) ∙ ap (λ ys. out ++ text (map view ys)) (sym (drop_all i xs past)) ∙ invariant

-- what is set, for a text of one variable and of those from a number on
pub set_written : (one : ℕ → Bool → Option FlowFormTree → List ℕ) (text : ℕ → Bool → List (Option FlowFormTree) → List ℕ)
    → ((k : ℕ) (first : Bool) (o : Option FlowFormTree) (os : List (Option FlowFormTree)) → text k first (o ∷ os) ≡ one k first o ++ text (k + 1) (stays_first first o) os)
    → (fs : List (Option FlowForm)) (i : ℕ) (f : Option FlowForm) (first next : Bool) (out now whole : List ℕ)
    → i < length fs → f ≡ get_or fs i f → next ≡ stays_first first (set_tree f) → now ≡ out ++ one i first (set_tree f)
    → out ++ text i first (map set_tree (drop i fs)) ≡ whole → now ++ text (i + 1) next (map set_tree (drop (i + 1) fs)) ≡ whole
set_written one text each fs i f first next out now whole lt is stays added invariant =
    let left = map set_tree (drop (i + 1) fs) in
    ap (λ (b : Bool). now ++ text (i + 1) b left) stays
    ∙ part_written out now (one i first (set_tree f)) (text i first (map set_tree (drop i fs))) (text (i + 1) (stays_first first (set_tree f)) left) whole added
    (ap (λ (l : List (Option FlowForm)). text i first (map set_tree l)) (drop_more fs i f lt)
    ∙ ap (λ (g : Option FlowForm). text i first (set_tree g ∷ left)) (sym is) ∙ each i first (set_tree f) left)
    invariant

pub result_written : (names : NameTable) (rs : List SortedForm) (i : ℕ) (r : SortedForm) (first : Bool) (width : Width) (out marked now whole : List ℕ)
    → i < length rs → r ≡ get_or rs i r → width ≡ sort_width r.sort → marked ≡ out ++ comma_text first → now ≡ marked ++ form_text names width (form_tree r.form)
    → out ++ results_text names first (map sorted_form (drop i rs)) ≡ whole → now ++ results_text names false (map sorted_form (drop (i + 1) rs)) ≡ whole
result_written names rs i r first width out marked now whole lt is wide comma added invariant =
    let left = map sorted_form (drop (i + 1) rs) in
    let form = form_text names (sort_width r.sort) (form_tree r.form) in
    part_written out now (comma_text first ++ form) (results_text names first (map sorted_form (drop i rs))) (results_text names false left) whole
    (added ∙ ap (λ (l : List ℕ). l ++ form_text names width (form_tree r.form)) comma ∙ ap (λ (w : Width). (out ++ comma_text first) ++ form_text names w (form_tree r.form)) wide
    ∙ append_assoc out (comma_text first) form)
    (ap (λ (l : List SortedForm). results_text names first (map sorted_form l)) (drop_more rs i r lt)
    ∙ ap (λ (s : SortedForm). results_text names first (sorted_form s ∷ left)) (sym is))
    invariant

pub comment_written : {A X : Type 0} (view : A → X) (text : ℕ × X → List ℕ) (xs : List A) (i : ℕ) (x : A) (out now whole : List ℕ)
    → i < length xs → x ≡ get_or xs i x → now ≡ out ++ comment_text (text (i, view x))
    → out ++ comments_text (map text (enumerate_from i (map view (drop i xs)))) ≡ whole → now ++ comments_text (map text (enumerate_from (i + 1) (map view (drop (i + 1) xs)))) ≡ whole
comment_written view text xs i x out now whole lt is added invariant =
    let left = map text (enumerate_from (i + 1) (map view (drop (i + 1) xs))) in
    part_written out now (comment_text (text (i, view x))) (comments_text (map text (enumerate_from i (map view (drop i xs))))) (comments_text left) whole added
    (ap (λ l. comments_text (map text (enumerate_from i (map view l)))) (drop_more xs i x lt) ∙ ap (λ y. comments_text (text (i, view y) ∷ left)) (sym is))
    invariant
