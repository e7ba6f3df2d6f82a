-- If a chain is a proof, both sides are the same.
use Rattle.std.proofs.Common.{◌≡◌, ⊎_elim, List, [], ◌∷◌, ◌++◌, length, Option, None, Some, sym, subst}
use Rattle.std.specs.List.{All}
use Rattle.std.proofs.lemmas.List.Elements.{All-nil, All-cons, All-head, All-tail}
use Rattle.kat_model.specs.Trees.{Term}
use Rattle.kat_model.specs.Members.{Has}
use Rattle.kat_model.specs.Problems.{ProblemParts}
use Rattle.kat_model.specs.Relations.{Frame, RelatesIn, frame_of}
use Rattle.kat_model.proofs.Places.{has_at}
use Rattle.chain_rules.specs.Chains.{Equation, equation, ChainTree, alone, equal_by, equal_by_inner, LineParts, first_term, last_term, ends_of, line_to, lines_of}
use Rattle.chain_rules.specs.Axioms.{IsInstance}
use Rattle.chain_rules.specs.Chained.{Holds, IsChained}
use Rattle.chain_rules.specs.Laws.{ChainedAreSame}
use Rattle.chain_rules.specs.declared.chain.Axiom.{Axiom}
use Rattle.chain_rules.specs.declared.chain.Axiom.TheVariants.{Bool, Hyp}
use Rattle.chain_rules.proofs.Agreement.{Agree, agree_itself, agree_sym, agree_trans, agree_at}
use Rattle.chain_rules.proofs.AxiomsHold.{PremiseHolds, axiom_holds, equal_tests_agree}

-- a property of all elements of a concatenation holds for all elements of each list
pub all_left : {X : Type 0} (P : X → Type 0) (xs ys : List X) → All P (xs ++ ys) → All P xs
all_left P [] ys h = All-nil P
all_left P (x ∷ xs) ys h = All-cons P x xs (All-head P x (xs ++ ys) h) (all_left P xs ys (All-tail P x (xs ++ ys) h))

pub all_right : {X : Type 0} (P : X → Type 0) (xs ys : List X) → All P (xs ++ ys) → All P ys
all_right P [] ys h = h
all_right P (x ∷ xs) ys h = all_right P xs ys (All-tail P x (xs ++ ys) h)

module _ {S : Type 0} (frame : Frame S) (q : ProblemParts) (wide : (i : S) → frame.IsState i → length (frame.atom i) ≡ q.tests) (kept : (h : Term) → Has q.hyps h → (i j : S) → frame.IsState i → frame.IsState j → RelatesIn frame h i j → ⊥) where
  instance_agrees : (rule : Axiom) (premise : Option Equation) (s : Equation) → IsInstance q rule premise s → PremiseHolds frame premise → Agree frame s.left s.right
  instance_agrees Bool premise s h p = equal_tests_agree frame q.tests wide s h.1
  instance_agrees (Hyp k) premise s h p =
      λ i j si sj. (
        (λ r. absurd (kept s.left (has_at q.hyps k s.left h.1) i j si sj r)),
        (λ r. absurd (subst (λ (e : Term). RelatesIn frame e i j) h.2 r)),
      )
  instance_agrees rule premise s h p = axiom_holds frame rule h.x h.y h.z s h.sides (subst (λ (o : Option Equation). PremiseHolds frame o) (sym h.premise) p)

  line_agrees : (l : LineParts) → Holds q l → PremiseHolds frame l.inner → Agree frame l.before l.after
  line_agrees l h p =
      agree_at frame l.path l.before l.after h.x h.y h.outside h.before h.after
      (⊎_elim
      (λ i. instance_agrees l.rule l.inner (equation h.x h.y) i p)
      (λ i. agree_sym frame h.y h.x (instance_agrees l.rule l.inner (equation h.y h.x) i p))
      h.by_axiom)

  chain_agrees : (c : ChainTree) → All (Holds q) (lines_of c) → Agree frame (first_term c) (last_term c)
  chain_agrees (alone e) h = agree_itself frame e
  chain_agrees (equal_by e rule path rest) h =
      let line = line_to e rule path None rest in
      agree_trans frame e (first_term rest) (last_term rest)
      (line_agrees line (All-head (Holds q) line (lines_of rest) h) tt)
      (chain_agrees rest (All-tail (Holds q) line (lines_of rest) h))
  chain_agrees (equal_by_inner e rule path inner rest) h =
      let line = line_to e rule path (Some (ends_of inner)) rest in
      let others = All-tail (Holds q) line (lines_of inner ++ lines_of rest) h in
      let inside = chain_agrees inner (all_left (Holds q) (lines_of inner) (lines_of rest) others) in
      let after = chain_agrees rest (all_right (Holds q) (lines_of inner) (lines_of rest) others) in
      agree_trans frame e (first_term rest) (last_term rest)
      (line_agrees line (All-head (Holds q) line (lines_of inner ++ lines_of rest) h) inside) after

  pub sides_agree : (c : ChainTree) → IsChained q c → Agree frame q.left q.right
  sides_agree c h = rw (← h.start, ← h.end) (chain_agrees c h.lines)

pub chained_same : ChainedAreSame
chained_same q c h t is_table keeps i j si sj =
    sides_agree (frame_of t) q is_table.wide (λ e has k l sk sl r. keeps e has k l sk sl r) c h i j si sj
