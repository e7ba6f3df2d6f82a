-- What targets stand for while others are added to them.
use Rattle.std.proofs.Common.{◌≡◌, ℕ, inl, inr, List, [], ◌∷◌, ◌++◌, map, refl, ap, ◌∙◌, subst, Bool, true, false, ◌&&◌, cond, append-nil, append_assoc}
use mathlib.Core.Path.{ap₂}
use Rattle.kat_model.specs.Trees.{Term}
use Rattle.kat_model.specs.Members.{SameMembers}
use Rattle.kat_model.specs.Steps.{Atom, dot}
use Rattle.kat_model.proofs.Lists.{same_members_trans}
use Rattle.cert_checker.specs.NodeTables.{TableParts, TablesGrow, TestsGrow, IsTest, IsTerm, term_at, holds_at}
use Rattle.cert_checker.specs.Targets.{chosen, AreEntries, Represent}
use Rattle.cert_checker.proofs.GrowingTables.{grows_trans, tests_trans}
use Rattle.cert_checker.proofs.TargetSets.{holds_kept, chosen_kept}
use Rattle.cert_checker.proofs.StepSets.{append_same}

same_itself : {X : Type 0} (xs : List X) → SameMembers xs xs
same_itself xs x = ((λ h. h), (λ h. h))

same_from : {X : Type 0} (xs ys : List X) → xs ≡ ys → SameMembers xs ys
same_from xs ys e = subst (SameMembers xs) e (same_itself xs)

-- ---- the targets of a list, under a guard

adding_step : (g h : Bool) (x : Term) (was now rest : List Term) → SameMembers now (was ++ cond (g && h) (x ∷ []) []) → SameMembers (now ++ cond g rest []) (was ++ cond g (cond h (x ∷ []) [] ++ rest) [])
adding_step false h x was now rest s =
    subst (SameMembers (now ++ [])) (append-nil (was ++ [])) (append_same now (was ++ []) [] [] s (same_itself []))
adding_step true h x was now rest s =
    subst (SameMembers (now ++ rest)) (append_assoc was (cond h (x ∷ []) []) rest) (append_same now (was ++ cond h (x ∷ []) []) rest rest s (same_itself rest))

-- some targets were added to `before`, giving `after`; `rest` remains
pub record IsAdding (first now : TableParts) (before after rest all : List (ℕ × ℕ)) (guard : ℕ) : Type 0 where
  pub grows : TestsGrow first now
  pub test : IsTest first guard
  pub entries : AreEntries now after
  pub others : AreEntries first rest
  pub same : (atom : Atom) → SameMembers (chosen now after atom ++ cond (holds_at first guard atom) (chosen first rest atom) []) (chosen first before atom ++ cond (holds_at first guard atom) (chosen first all atom) [])

module _ (first now mid last : TableParts) (before after new rest all : List (ℕ × ℕ)) (guard both : ℕ) (e : ℕ × ℕ) where
  -- the conjunction of both guards is the guard of the added target
  pub adding_more : IsAdding first now before after (e ∷ rest) all guard → TestsGrow now mid → ((atom : Atom) → holds_at mid both atom ≡ (holds_at now guard atom && holds_at now e.1 atom))
      → TestsGrow mid last → Represent last new (λ atom. chosen mid after atom ++ cond (holds_at mid both atom) (term_at mid e.0 ∷ []) []) → IsAdding first last before new rest all guard
  adding_more a to_mid value to_last represents = record {
    grows = tests_trans first mid last (tests_trans first now mid a.grows to_mid) to_last;
    test = a.test;
    entries = represents.entries;
    others = λ d h. a.others d (inr h);
    same = λ atom. same_members_trans (chosen last new atom ++ cond (holds_at first guard atom) (chosen first rest atom) []) (chosen now after atom ++ cond (holds_at first guard atom) (chosen first (e ∷ rest) atom) []) _
        (adding_step (holds_at first guard atom) (holds_at first e.1 atom) (term_at first e.0) (chosen now after atom) (chosen last new atom) (chosen first rest atom) (step atom)) (a.same atom);
  }
    where
      grown : TablesGrow first now
      grown = a.grows.grows

      own : IsTerm first e.0 × IsTest first e.1
      own = a.others e (inl refl)

      guards : (atom : Atom) → holds_at mid both atom ≡ (holds_at first guard atom && holds_at first e.1 atom)
      guards atom = value atom ∙ ap₂ (λ (x y : Bool). x && y) (holds_kept first now grown.was grown guard atom a.test) (holds_kept first now grown.was grown e.1 atom own.1)

      name : term_at mid e.0 ≡ term_at first e.0
      name = (grows_trans first now mid grown to_mid.grows).nodes.trees e.0 own.0

      step : (atom : Atom) → SameMembers (chosen last new atom) (chosen now after atom ++ cond (holds_at first guard atom && holds_at first e.1 atom) (term_at first e.0 ∷ []) [])
      step atom =
          same_members_trans (chosen last new atom) _ (chosen now after atom ++ cond (holds_at first guard atom && holds_at first e.1 atom) (term_at first e.0 ∷ []) []) (represents.same atom)
          (same_from _ _ (ap₂ (λ (xs ys : List Term). xs ++ ys) (chosen_kept now mid grown.sound to_mid.grows after atom a.entries) (ap₂ (λ (b : Bool) (x : Term). cond b (x ∷ []) []) (guards atom) name)))

nothing_more : (b : Bool) (l : List Term) → l ++ cond b [] [] ≡ l
nothing_more true l = append-nil l
nothing_more false l = append-nil l

pub adding_ends : (first now : TableParts) (before after all : List (ℕ × ℕ)) (guard : ℕ) → IsAdding first now before after [] all guard
    → Represent now after (λ atom. chosen first before atom ++ cond (holds_at first guard atom) (chosen first all atom) [])
adding_ends first now before after all guard a = record {
  entries = a.entries;
  same = λ atom.
      subst (λ l. SameMembers l (chosen first before atom ++ cond (holds_at first guard atom) (chosen first all atom) []))
      (nothing_more (holds_at first guard atom) (chosen now after atom)) (a.same atom);
}

-- ---- each target followed by another term

follow_step : (f : Term → Term) (h : Bool) (x : Term) (was now rest : List Term) → SameMembers now (was ++ cond h (f x ∷ []) []) → SameMembers (now ++ map f rest) (was ++ map f (cond h (x ∷ []) [] ++ rest))
follow_step f true x was now rest s =
    subst (SameMembers (now ++ map f rest)) (append_assoc was (f x ∷ []) (map f rest)) (append_same now (was ++ f x ∷ []) (map f rest) (map f rest) s (same_itself (map f rest)))
follow_step f false x was now rest s =
    subst (SameMembers (now ++ map f rest)) (append_assoc was [] (map f rest)) (append_same now (was ++ []) (map f rest) (map f rest) s (same_itself (map f rest)))

pub record IsFollowing (first now : TableParts) (after : ℕ) (targets rest all : List (ℕ × ℕ)) : Type 0 where
  pub grows : TablesGrow first now
  pub term : IsTerm first after
  pub entries : AreEntries now targets
  pub others : AreEntries first rest
  pub same : (atom : Atom) → SameMembers (chosen now targets atom ++ map (λ x. dot x (term_at first after)) (chosen first rest atom)) (map (λ x. dot x (term_at first after)) (chosen first all atom))

module _ (first now mid last : TableParts) (after product : ℕ) (targets new rest all : List (ℕ × ℕ)) (e : ℕ × ℕ) where
  pub following_more : IsFollowing first now after targets (e ∷ rest) all → TablesGrow now mid → term_at mid product ≡ dot (term_at now e.0) (term_at now after)
      → TablesGrow mid last → Represent last new (λ atom. chosen mid targets atom ++ cond (holds_at mid e.1 atom) (term_at mid product ∷ []) []) → IsFollowing first last after new rest all
  following_more a to_mid made to_last represents = record {
    grows = grows_trans first mid last (grows_trans first now mid a.grows to_mid) to_last;
    term = a.term;
    entries = represents.entries;
    others = λ d h. a.others d (inr h);
    same = λ atom. same_members_trans (chosen last new atom ++ map (λ x. dot x (term_at first after)) (chosen first rest atom)) (chosen now targets atom ++ map (λ x. dot x (term_at first after)) (chosen first (e ∷ rest) atom)) _
        (follow_step (λ x. dot x (term_at first after)) (holds_at first e.1 atom) (term_at first e.0) (chosen now targets atom) (chosen last new atom) (chosen first rest atom) (step atom)) (a.same atom);
  }
    where
      own : IsTerm first e.0 × IsTest first e.1
      own = a.others e (inl refl)

      guards : (atom : Atom) → holds_at mid e.1 atom ≡ holds_at first e.1 atom
      guards atom = holds_kept first mid a.grows.was (grows_trans first now mid a.grows to_mid) e.1 atom own.1

      name : term_at mid product ≡ dot (term_at first e.0) (term_at first after)
      name = made ∙ ap₂ dot (a.grows.nodes.trees e.0 own.0) (a.grows.nodes.trees after a.term)

      step : (atom : Atom) → SameMembers (chosen last new atom) (chosen now targets atom ++ cond (holds_at first e.1 atom) (dot (term_at first e.0) (term_at first after) ∷ []) [])
      step atom =
          same_members_trans (chosen last new atom) _ (chosen now targets atom ++ cond (holds_at first e.1 atom) (dot (term_at first e.0) (term_at first after) ∷ []) []) (represents.same atom)
          (same_from _ _ (ap₂ (λ (xs ys : List Term). xs ++ ys) (chosen_kept now mid a.grows.sound to_mid targets atom a.entries) (ap₂ (λ (b : Bool) (x : Term). cond b (x ∷ []) []) (guards atom) name)))

pub following_ends : (first now : TableParts) (after : ℕ) (targets all : List (ℕ × ℕ)) → IsFollowing first now after targets [] all → Represent now targets (λ atom. map (λ x. dot x (term_at first after)) (chosen first all atom))
following_ends first now after targets all a = record {
  entries = a.entries;
  same = λ atom. subst (λ l. SameMembers l (map (λ x. dot x (term_at first after)) (chosen first all atom))) (append-nil (chosen now targets atom)) (a.same atom);
}

-- ---- targets added unconditionally

-- the added targets are those of older tables
pub gathered : (first now last : TableParts) (es new more : List (ℕ × ℕ)) (always : ℕ) → TablesGrow first now → AreEntries first more → ((atom : Atom) → holds_at now always atom ≡ true) → Represent last new (λ atom. chosen now es atom ++ cond (holds_at now always atom) (chosen now more atom) []) → Represent last new (λ atom. chosen now es atom ++ chosen first more atom)
gathered first now last es new more always grows own holds_all represents = record {
  entries = represents.entries;
  same = λ atom. same_members_trans (chosen last new atom) (chosen now es atom ++ cond (holds_at now always atom) (chosen now more atom) []) (chosen now es atom ++ chosen first more atom) (represents.same atom)
      (same_from (chosen now es atom ++ cond (holds_at now always atom) (chosen now more atom) []) (chosen now es atom ++ chosen first more atom)
      (ap (λ l. chosen now es atom ++ l) (ap₂ (λ (b : Bool) (l : List Term). cond b l []) (holds_all atom) (chosen_kept first now grows.was grows more atom own))));
}
