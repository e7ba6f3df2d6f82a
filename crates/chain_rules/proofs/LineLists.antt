-- The lines of a chain, traversed one by one.
use Rattle.std.proofs.Common.{arith, ◌≡◌, ℕ, ◌+◌, ◌-◌, ◌≤◌, List, [], ◌∷◌, ◌++◌, length, take, drop, Option, None, Some, MatchOption, refl, sym, ap, subst, ◌∙◌, append_assoc, append-nil, ◌<◌, get_or, length-append, zero as nought, suc, Bool, ◌↔◌, Box, Global}
use Rattle.std.specs.Bool.{IsTrue}
use Rattle.std.specs.List.{All, slice_get}
use Rattle.std.specs.Option.{option_map}
use Rattle.std.proofs.lemmas.List.{take-append-le, drop_more, drop_all, get_or-append-add}
use Rattle.std.proofs.lemmas.Option.{slice_get_within, slice_get_read, get_or_from_slice_get}
use Rattle.std.proofs.Math.Seq.{take-append-add}
use Rattle.kat_model.proofs.Places.{slice_get-append_some}
use Rattle.std.proofs.lemmas.List.Elements.{All-nil, All-cons, All-append, All-same}
use Rattle.kat_model.specs.Trees.{Term, sum, product, star, kat_tree}
use Rattle.kat_model.specs.Problems.{ProblemParts, IsInRange, counted}
use Rattle.chain_rules.specs.Chains.{equation, ChainTree, alone, equal_by, equal_by_inner, LineParts, first_term, last_term, ends_of, line_to, lines_of, lines_count}
use Rattle.chain_rules.specs.ChainViews.{unboxed, with_line, chain_tree}
use Rattle.chain_rules.specs.Chained.{Holds, IsFirstFailing, HasTermsInRange}
use Rattle.chain_rules.specs.Places.{subterm}
use Rattle.chain_rules.specs.Working.LineViews.{line_parts, inner_lines, lines_at}
use Rattle.chain_rules.specs.Working.LineChecks.{IsLineCheck, IsUnderWay}
use Rattle.chain_rules.specs.ChainFalls.{lines_fall}
use Rattle.chain_rules.specs.declared.chain.Line.{Line}
use Rattle.chain_rules.specs.declared.chain.Chain.TheDeep.{deep-Line}
use denote.Param.Weighed.{most, at_most}
use Rattle.chain_rules.specs.declared.checking.LineCheck.{LineCheck}
use Rattle.chain_rules.specs.declared.checking.LineCheck.TheVariants.{AllHold, FirstFailing}
use Rattle.chain_rules.specs.declared.chain.Axiom.{Axiom}

-- ---- places

pub subterm_in_range : (tests actions : ℕ) (path : List ℕ) (e x : Term) → subterm path e ≡ Some x → IsInRange tests actions e → IsInRange tests actions x
subterm_in_range tests actions [] e x h r = let p : x ≡ e = cc in rw p r
subterm_in_range tests actions (nought ∷ path) (sum e f) x h r = subterm_in_range tests actions path e x h r.0
subterm_in_range tests actions (suc nought ∷ path) (sum e f) x h r = subterm_in_range tests actions path f x h r.1
subterm_in_range tests actions (nought ∷ path) (product e f) x h r = subterm_in_range tests actions path e x h r.0
subterm_in_range tests actions (suc nought ∷ path) (product e f) x h r = subterm_in_range tests actions path f x h r.1
subterm_in_range tests actions (nought ∷ path) (star e) x h r = subterm_in_range tests actions path e x h r
subterm_in_range tests actions (k ∷ path) e x h r = absurd cc

-- ---- lines

pub first_term-chain_tree : (e : Term) (ls : List Line) → first_term (chain_tree e ls) ≡ e
first_term-chain_tree e [] = refl
first_term-chain_tree e (l ∷ ls) = first_of (unboxed l.inner) where
  first_of : (inner : Option ChainTree) → first_term (with_line e l.rule l.path.items inner (chain_tree (kat_tree l.next) ls)) ≡ e
  first_of None = refl
  first_of (Some c) = refl

lines_of-with_line : (e : Term) (rule : Axiom) (path : List ℕ) (inner : Option ChainTree) (rest : ChainTree) → lines_of (with_line e rule path inner rest) ≡ line_to e rule path (option_map ends_of inner) rest ∷ (inner_lines inner ++ lines_of rest)
lines_of-with_line e rule path None rest = refl
lines_of-with_line e rule path (Some c) rest = refl

-- a line comes first, then the lines of its inner chain, then the other lines
lines_of-chain_tree : (e : Term) (l : Line) (ls : List Line) → lines_of (chain_tree e (l ∷ ls)) ≡ lines_at e l ++ lines_of (chain_tree (kat_tree l.next) ls)
lines_of-chain_tree e l ls =
    lines_of-with_line e l.rule l.path.items (unboxed l.inner) (chain_tree (kat_tree l.next) ls)
    ∙ rw (first_term-chain_tree (kat_tree l.next) ls) refl

last_term-with_line : (e : Term) (rule : Axiom) (path : List ℕ) (inner : Option ChainTree) (rest : ChainTree) → last_term (with_line e rule path inner rest) ≡ last_term rest
last_term-with_line e rule path None rest = refl
last_term-with_line e rule path (Some c) rest = refl

last_line : (e : Term) (l : Line) (ls : List Line) (m : Line) → slice_get (l ∷ ls) (length ls) ≡ Some m → last_term (chain_tree e (l ∷ ls)) ≡ kat_tree m.next
last_line e l [] m h =
    let same : l ≡ m = cc in
    last_term-with_line e l.rule l.path.items (unboxed l.inner) (alone (kat_tree l.next)) ∙ ap (λ (k : Line). kat_tree k.next) same
last_line e l (k ∷ ls) m h =
    let longer : length (k ∷ ls) ≡ suc (length ls) = omega arith in
    let there : slice_get (k ∷ ls) (length ls) ≡ Some m = sym (ap (slice_get (l ∷ k ∷ ls)) longer) ∙ h in
    last_term-with_line e l.rule l.path.items (unboxed l.inner) (chain_tree (kat_tree l.next) (k ∷ ls)) ∙ last_line (kat_tree l.next) k ls m there

-- the last term is that of the last line
last_term-chain_tree : (e : Term) (ls : List Line) (m : Line) → slice_get ls (length ls - 1) ≡ Some m → last_term (chain_tree e ls) ≡ kat_tree m.next
last_term-chain_tree e [] m h = absurd cc
last_term-chain_tree e (l ∷ ls) m h =
    let there : length (l ∷ ls) - 1 ≡ length ls = omega arith in
    last_line e l ls m (sym (ap (slice_get (l ∷ ls)) there) ∙ h)

-- ---- the ends

pub last_found : (first : Term) (items own : List Line) (whole : ChainTree) (m : Line) → items ≡ own → chain_tree first own ≡ whole → slice_get items (length items - 1) ≡ Some m → kat_tree m.next ≡ last_term whole
last_found first items own whole m read view h =
    sym (last_term-chain_tree first items m h) ∙ ap last_term (ap (λ (ls : List Line). chain_tree first ls) read ∙ view)

start_found : (first : Term) (own : List Line) (whole : ChainTree) → chain_tree first own ≡ whole → first ≡ first_term whole
start_found first own whole view = sym (first_term-chain_tree first own) ∙ ap first_term view

pub ends_found : (first last : Term) (own : List Line) (whole : ChainTree) → chain_tree first own ≡ whole → last ≡ last_term whole → equation first last ≡ ends_of whole
ends_found first last own whole view end =
    ap (λ (e : Term). equation e last) (start_found first own whole view) ∙ ap (λ (e : Term). equation (first_term whole) e) end

-- comparing the ends with the sides
pub end_compared : (last right end side : Term) (same : Bool) → last ≡ end → right ≡ side → IsTrue same ↔ (last ≡ right) → IsTrue same ↔ (end ≡ side)
end_compared last right end side same l r f = ((λ h. sym l ∙ f.0 h ∙ r), (λ h. f.1 (l ∙ h ∙ sym r)))

pub start_compared : (first : Term) (own : List Line) (whole : ChainTree) (left side : Term) (same : Bool) → chain_tree first own ≡ whole → left ≡ side → IsTrue same ↔ (first ≡ left) → IsTrue same ↔ (first_term whole ≡ side)
start_compared first own whole left side same view l f =
    end_compared first left (first_term whole) side same (start_found first own whole view) l f

-- ---- ranges

range_of_first : (tests actions : ℕ) (c : ChainTree) → HasTermsInRange tests actions c → IsInRange tests actions (first_term c)
range_of_first tests actions (alone e) r = r
range_of_first tests actions (equal_by e rule path rest) r = r.0
range_of_first tests actions (equal_by_inner e rule path inner rest) r = r.0

next_in_range : (tests actions : ℕ) (l : Line) (ls : List Line) → HasTermsInRange tests actions (chain_tree (kat_tree l.next) ls) → IsInRange tests actions (kat_tree l.next)
next_in_range tests actions l ls r =
    subst (λ (e : Term). IsInRange tests actions e) (first_term-chain_tree (kat_tree l.next) ls) (range_of_first tests actions (chain_tree (kat_tree l.next) ls) r)

-- all parts of a chain that begins with a line are in range
pub record IsLineInRange (tests actions : ℕ) (e : Term) (l : Line) (after : ChainTree) : Type 0 where
  pub before : IsInRange tests actions e
  pub next : IsInRange tests actions (kat_tree l.next)
  pub inner : MatchOption (unboxed l.inner) (Unit {0}) (HasTermsInRange tests actions)
  pub rest : HasTermsInRange tests actions after

line_in_range : (tests actions : ℕ) (e : Term) (l : Line) (ls : List Line) → HasTermsInRange tests actions (chain_tree e (l ∷ ls)) → IsLineInRange tests actions e l (chain_tree (kat_tree l.next) ls)
line_in_range tests actions e l ls r = by_inner (unboxed l.inner) refl r where
  by_inner : (inner : Option ChainTree) → unboxed l.inner ≡ inner → HasTermsInRange tests actions (with_line e l.rule l.path.items inner (chain_tree (kat_tree l.next) ls)) → IsLineInRange tests actions e l (chain_tree (kat_tree l.next) ls)
  by_inner None p h = record { before = h.0; next = next_in_range tests actions l ls h.1; inner = rw p tt; rest = h.1 }
  by_inner (Some c) p h = record { before = h.0; next = next_in_range tests actions l ls h.2; inner = rw p h.1; rest = h.2 }

-- ---- results of the check

-- a line that fails is the first failing line of any list that it begins
pub fails_at_once : (q : ProblemParts) (line : LineParts) (lines : List LineParts) → (Holds q line → ⊥) → IsLineCheck q (line ∷ lines) (FirstFailing 0)
fails_at_once q line lines f =
    (0, record { line = line; here = refl; fails = f; earlier = All-nil (Holds q) }, refl)

-- the first failing line after lines that hold
later_failing : (q : ProblemParts) (done lines : List LineParts) (n : ℕ) → All (Holds q) done → IsFirstFailing q lines n → IsFirstFailing q (done ++ lines) (length done + n)
later_failing q done lines n h f =
    record {
      line = f.line;
      here = slice_get_read (done ++ lines) _ (length done + n) f.line refl (omega (arith, length-append done lines, slice_get_within lines n f.line f.here))
          (sym (get_or-append-add done lines n f.line ∙ get_or_from_slice_get lines n f.line f.line f.here));
      fails = f.fails;
      earlier = All-same (Holds q) _ _ (take-append-add done lines n) (All-append (Holds q) done (take n lines) h f.earlier);
    }

-- the first failing line stays the first when lines are added after it
failing_before : (q : ProblemParts) (lines others : List LineParts) (n : ℕ) → IsFirstFailing q lines n → IsFirstFailing q (lines ++ others) n
failing_before q lines others n f =
    record {
      line = f.line;
      here = slice_get-append_some lines others n f.line f.here;
      fails = f.fails;
      earlier = All-same (Holds q) _ _ (take-append-le n lines others (let lt : n < length lines = slice_get_within lines n f.line f.here in omega arith)) f.earlier;
    }

counted_sum : (m n : ℕ) → counted (counted m + counted n) ≡ counted (m + n)
counted_sum m n = omega arith

-- the line holds, and so do the lines of its inner chain
pub hold_after : (q : ProblemParts) (line : LineParts) (lines : List LineParts) (n : ℕ) → Holds q line → IsLineCheck q lines (AllHold n) → IsLineCheck q (line ∷ lines) (AllHold (counted (n + 1)))
hold_after q line lines n h c =
    (All-cons (Holds q) line lines h c.0, rw c.1 (let e : counted (counted (length lines) + 1) ≡ counted (length (line ∷ lines)) = omega arith in e))

-- the line holds, and a line of its inner chain fails
pub fail_after : (q : ProblemParts) (line : LineParts) (lines : List LineParts) (n : ℕ) → Holds q line → IsLineCheck q lines (FirstFailing n) → IsLineCheck q (line ∷ lines) (FirstFailing (counted (n + 1)))
fail_after q line lines n h c =
    (1 + c.0, later_failing q (line ∷ []) lines c.0 (All-cons (Holds q) line [] h (All-nil (Holds q))) c.1, omega (arith, c.2))

-- ---- the loop

pub under_way_first : (q : ProblemParts) (c : ChainTree) → HasTermsInRange q.tests q.actions c → IsUnderWay q (lines_of c) 0 c
under_way_first q c r = record { done = []; split = refl; hold = All-nil (Holds q); number = refl; in_range = r }

under_way_next : (q : ProblemParts) (all : List LineParts) (count n : ℕ) (e : Term) (l : Line) (ls : List Line) → IsUnderWay q all count (chain_tree e (l ∷ ls)) → IsLineCheck q (lines_at e l) (AllHold n) → IsUnderWay q all (counted (count + n)) (chain_tree (kat_tree l.next) ls)
under_way_next q all count n e l ls u c =
    let rest = lines_of (chain_tree (kat_tree l.next) ls) in
    record {
      done = u.done ++ lines_at e l;
      split = u.split ∙ ap (λ (xs : List LineParts). u.done ++ xs) (lines_of-chain_tree e l ls) ∙ sym (append_assoc u.done (lines_at e l) rest);
      hold = All-append (Holds q) u.done (lines_at e l) u.hold c.0;
      number = rw (u.number, c.1, length-append u.done (lines_at e l)) (counted_sum (length u.done) (length (lines_at e l)));
      in_range = (line_in_range q.tests q.actions e l ls u.in_range).rest;
    }

under_way_fails : (q : ProblemParts) (all : List LineParts) (count n : ℕ) (e : Term) (l : Line) (ls : List Line) → IsUnderWay q all count (chain_tree e (l ∷ ls)) → IsLineCheck q (lines_at e l) (FirstFailing n) → IsLineCheck q all (FirstFailing (counted (count + n)))
under_way_fails q all count n e l ls u c =
    let rest = lines_of (chain_tree (kat_tree l.next) ls) in
    let split : all ≡ u.done ++ (lines_at e l ++ rest) = u.split ∙ ap (λ (xs : List LineParts). u.done ++ xs) (lines_of-chain_tree e l ls) in (
      length u.done + c.0,
      rw split (later_failing q u.done (lines_at e l ++ rest) c.0 u.hold (failing_before q (lines_at e l) rest c.0 c.1)),
      rw (u.number, c.2) (counted_sum (length u.done) c.0),
    )

under_way_last : (q : ProblemParts) (all : List LineParts) (count : ℕ) (e : Term) → IsUnderWay q all count (alone e) → IsLineCheck q all (AllHold count)
under_way_last q all count e u =
    let split : all ≡ u.done = u.split ∙ append-nil u.done in
    (rw split u.hold, rw split u.number)

-- ---- the steps of the program

-- the remaining lines begin with the current one
rest_at : (q : ProblemParts) (all : List LineParts) (count i : ℕ) (e : Term) (l : Line) (items : List Line) → i < length items → l ≡ get_or items i l → IsUnderWay q all count (chain_tree e (drop i items)) → IsUnderWay q all count (chain_tree e (l ∷ drop (i + 1) items))
rest_at q all count i e l items lt is u =
    let left : drop i items ≡ l ∷ drop (i + 1) items = drop_more items i l lt ∙ ap (λ (k : Line). k ∷ drop (i + 1) items) (sym is) in
    subst (λ (ls : List Line). IsUnderWay q all count (chain_tree e ls)) left u

pub line_at : (q : ProblemParts) (all : List LineParts) (count i : ℕ) (e : Term) (l : Line) (items : List Line) → i < length items → l ≡ get_or items i l → IsUnderWay q all count (chain_tree e (drop i items)) → IsLineInRange q.tests q.actions e l (chain_tree (kat_tree l.next) (drop (i + 1) items))
line_at q all count i e l items lt is u =
    let begun = rest_at q all count i e l items lt is u in
    line_in_range q.tests q.actions e l (drop (i + 1) items) begun.in_range

-- the chains in a line are smaller than the chain that has the line
pub line_below : (first : Term) (items own : List Line) (whole : ChainTree) (i : ℕ) (l : Line) → items ≡ own → chain_tree first own ≡ whole → i < length items → l ≡ get_or items i l → deep-Line l ≤ lines_count whole
line_below first items own whole i l read view lt is =
    let one : deep-Line (get_or items i l) ≤ most (λ (k : Line). deep-Line k) items = at_most (λ (k : Line). deep-Line k) items i l lt in
    let all : most (λ (k : Line). deep-Line k) items ≤ lines_count (chain_tree first items) = lines_fall first items in
    let count : lines_count (chain_tree first items) ≡ lines_count whole = ap (λ (ls : List Line). lines_count (chain_tree first ls)) read ∙ ap lines_count view in
    let here : deep-Line l ≡ deep-Line (get_or items i l) = ap (λ (k : Line). deep-Line k) is in
    omega (arith, one, all, count, here)

-- a line of the inner chain fails
pub inner_fails : (q : ProblemParts) (e : Term) (l : Line) (inner : Box ChainTree Global) (own : ChainTree) (found : LineCheck) (n m : ℕ) → l.inner ≡ Some inner → own ≡ inner.value → Holds q (line_parts e l) → IsLineCheck q (lines_of own) found → found ≡ FirstFailing n → m ≡ counted (n + 1) → IsLineCheck q (lines_at e l) (FirstFailing m)
inner_fails q e l inner own found n m some read holds f is number =
    let below : IsLineCheck q (lines_of own) (FirstFailing n) = subst (λ (a : LineCheck). IsLineCheck q (lines_of own) a) is f in
    let line : IsLineCheck q (line_parts e l ∷ lines_of own) (FirstFailing (counted (n + 1))) = fail_after q (line_parts e l) (lines_of own) n holds below in
    let same : lines_of own ≡ inner_lines (unboxed l.inner) = ap lines_of read ∙ sym (ap (λ (o : Option (Box ChainTree Global)). inner_lines (unboxed o)) some) in
    subst (λ (k : ℕ). IsLineCheck q (lines_at e l) (FirstFailing k)) (sym number) (subst (λ (ls : List LineParts). IsLineCheck q (line_parts e l ∷ ls) (FirstFailing (counted (n + 1)))) same line)

module _ (q : ProblemParts) (first : Term) (items own : List Line) (whole : ChainTree) (read : items ≡ own) (view : chain_tree first own ≡ whole) where
  whole_lines : lines_of (chain_tree first items) ≡ lines_of whole
  whole_lines = ap (λ (ls : List Line). lines_of (chain_tree first ls)) read ∙ ap lines_of view

  -- the line fails, or a line of its inner chain does
  pub loop_fails : (count i : ℕ) (e : Term) (l : Line) (found : LineCheck) (n m : ℕ) → i < length items → l ≡ get_or items i l → IsUnderWay q (lines_of (chain_tree first items)) count (chain_tree e (drop i items)) → IsLineCheck q (lines_at e l) found → found ≡ FirstFailing n → m ≡ counted (count + n) → IsLineCheck q (lines_of whole) (FirstFailing m)
  loop_fails count i e l found n m lt at u f is number =
      let all = lines_of (chain_tree first items) in
      let here : IsLineCheck q (lines_at e l) (FirstFailing n) = subst (λ (a : LineCheck). IsLineCheck q (lines_at e l) a) is f in
      let there : IsLineCheck q all (FirstFailing (counted (count + n))) = under_way_fails q all count n e l (drop (i + 1) items) (rest_at q all count i e l items lt at u) here in
      subst (λ (ls : List LineParts). IsLineCheck q ls (FirstFailing m)) whole_lines (subst (λ (k : ℕ). IsLineCheck q all (FirstFailing k)) (sym number) there)

  pub loop_ends : (count i : ℕ) (e : Term) → length items ≤ i → IsUnderWay q (lines_of (chain_tree first items)) count (chain_tree e (drop i items)) → IsLineCheck q (lines_of whole) (AllHold count)
  loop_ends count i e le u =
      let all = lines_of (chain_tree first items) in
      let done : IsUnderWay q all count (alone e) = subst (λ (ls : List Line). IsUnderWay q all count (chain_tree e ls)) (drop_all i items le) u in
      subst (λ (ls : List LineParts). IsLineCheck q ls (AllHold count)) whole_lines (under_way_last q all count e done)

-- the line and the lines of its inner chain hold
pub loop_goes_on : (q : ProblemParts) (all : List LineParts) (count i : ℕ) (e : Term) (l : Line) (items : List Line) (found : LineCheck) (n m : ℕ) → i < length items → l ≡ get_or items i l → IsUnderWay q all count (chain_tree e (drop i items)) → IsLineCheck q (lines_at e l) found → found ≡ AllHold n → m ≡ counted (count + n) → IsUnderWay q all m (chain_tree (kat_tree l.next) (drop (i + 1) items))
loop_goes_on q all count i e l items found n m lt at u f is number =
    let here : IsLineCheck q (lines_at e l) (AllHold n) = subst (λ (a : LineCheck). IsLineCheck q (lines_at e l) a) is f in
    subst (λ (k : ℕ). IsUnderWay q all k (chain_tree (kat_tree l.next) (drop (i + 1) items))) (sym number) (under_way_next q all count n e l (drop (i + 1) items) (rest_at q all count i e l items lt at u) here)
