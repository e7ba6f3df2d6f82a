-- What is live before statements and jumps.
use Rattle.std.proofs.Common.{◌≡◌, ℕ, Bool, true, false, not, ◌&&◌, ◌||◌, ◌+◌, ◌-◌, List, [], ◌∷◌, ◌++◌, length, map, take, refl, sym, ◌∙◌, ap, arith, length-append}
use mathlib.Core.Path.{ap₂}
use Rattle.std.proofs.lemmas.List.{map_push, nil_from_length, take_at}
use Rattle.std.specs.Prelude.{Vec}
use Rattle.std.specs.declared.alloc.Global.{Global}
use Rattle.flow_model.specs.declared.graph.ExprNode.{ExprNode}
use Rattle.flow_model.specs.declared.graph.Statement.{Statement}
use Rattle.flow_model.specs.Conditions.{CondTree}
use Rattle.flow_model.specs.Graphs.{StatementTree, assign, claim, goto, branch, return}
use Rattle.flow_model.specs.Polish.{values_of, statement_of}
use Rattle.flow_ways.specs.Liveness.{any_reads, cond_reads, is_target, live_before}
use Rattle.flow_places.specs.Reads.{values_read}
use Rattle.flow_places.specs.Live.{live_at_jump}
use Rattle.flow_places.proofs.NodeReads.{values_any}

or_false : (b : Bool) → (b || false) ≡ b
or_false true = refl
or_false false = refl

-- statements, from the last one to the first

last_before : (x : ℕ) (ss : List StatementTree) (s : StatementTree) (b : Bool) → live_before x (ss ++ s ∷ []) b ≡ live_before x ss (live_before x (s ∷ []) b)
last_before x [] s b = refl
last_before x (assign ks es ∷ rest) s b = ap (λ a. any_reads x es || (not (is_target x ks) && a)) (last_before x rest s b)
last_before x (claim c ∷ rest) s b = ap (λ a. cond_reads x c || a) (last_before x rest s b)

without_last : (left before : List Statement) (s : Statement) → left ≡ before ++ s ∷ [] → take (length left - 1) left ≡ before
without_last left before s is =
    let long : length left ≡ length before + 1 = ap length is ∙ length-append before (s ∷ []) in
    ap (take (length left - 1)) is ∙ take_at before (s ∷ []) (length left - 1) (omega (arith, long))

pub left_before : (x : ℕ) (left before : List Statement) (s : Statement) (old new all : Bool) → left ≡ before ++ s ∷ [] → new ≡ live_before x (statement_of s ∷ []) old → live_before x (map statement_of left) old ≡ all → live_before x (map statement_of (take (length left - 1) left)) new ≡ all
left_before x left before s old new all is made so_far =
    ap₂ (λ ss b. live_before x (map statement_of ss) b) (without_last left before s is) made
    ∙ sym (last_before x (map statement_of before) (statement_of s) old)
    ∙ sym (ap (λ ss. live_before x ss old) (ap (map statement_of) is ∙ map_push statement_of before s))
    ∙ so_far

pub none_left : (x : ℕ) (left : List Statement) (b all : Bool) → length left ≡ 0 → live_before x (map statement_of left) b ≡ all → b ≡ all
none_left x left b all e so_far = sym (ap (λ ss. live_before x (map statement_of ss) b) (nil_from_length left e)) ∙ so_far

pub at_goto : (x k : ℕ) (at : ℕ → Bool) (old new : Bool) → old ≡ false → new ≡ (old || at k) → new ≡ live_at_jump x at (goto k)
at_goto x k at old new e f = f ∙ ap (λ b. b || at k) e ∙ sym (or_false (at k))

pub at_branch : (x k l : ℕ) (c : CondTree) (at : ℕ → Bool) (old first second new : Bool) → old ≡ false → first ≡ (old || at k) → second ≡ (first || at l) → new ≡ (cond_reads x c || second) → new ≡ live_at_jump x at (branch c k l)
at_branch x k l c at old first second new e f g h =
    h ∙ ap (λ b. cond_reads x c || b) (g ∙ ap (λ b. b || at l) (f ∙ ap (λ b. b || at k) e) ∙ ap (λ b. at k || b) (sym (or_false (at l))))

pub at_return : (x : ℕ) (es : List (Vec ExprNode Global)) (at : ℕ → Bool) (old new : Bool) → old ≡ false → new ≡ (values_read x es || old) → new ≡ live_at_jump x at (return (values_of es))
at_return x es at old new e f = f ∙ ap₂ (λ a b. a || b) (sym (values_any x es)) e

pub at_assign : (x : ℕ) (ks : List ℕ) (es : List (Vec ExprNode Global)) (old mid new : Bool) → mid ≡ (not (is_target x ks) && old) → new ≡ (values_read x es || mid) → new ≡ live_before x (assign ks (values_of es) ∷ []) old
at_assign x ks es old mid new e f = f ∙ ap₂ (λ a b. a || b) (sym (values_any x es)) e
