use Rattle.std.proofs.Common.{◌≡◌, ℕ, List, [], ◌∷◌, ◌++◌, map, inl, inr, refl, sym, ap, ◌∙◌, subst, arith, append_assoc, append-nil}
use Rattle.std.specs.Map.Iter.{deref_pair}
use Rattle.std.proofs.lemmas.Map.Iter.{rest_more, rest_all}
use Rattle.kat_model.specs.Members.{Has}
use Rattle.cert_checker.specs.Passes.{forbidden_of}
use Rattle.cert_checker.proofs.pass.forbid_targets.Goals as goal

pub loop-term-init : goal.loop-term-init
loop-term-init c =
    let entries : c.into_iter-term-iterator.result ≡ c.args.targets.now.entries = c.into_iter-term-iterator.ensures.into_iter_gives ∙ c.iter-term-items.ensures.rest in
    record {
      pairs = refl;
      there = λ e h. c.requires e (subst (λ (l : List (ℕ × ℕ)). Has l e) entries h);
    }

pub bounds-outputs-term : goal.bounds-outputs-term
bounds-outputs-term c =
    let cut : c.loop-term.term-iterator ≡ (c.in-Some.term.now, c.in-Some.guard.now) ∷ c.next.new.self = rest_more deref_pair _ _ _ (c.in-Some.term, c.in-Some.guard) c.in-Some.is c.next.ensures.steps in
    c.loop-term.invariant.there (c.in-Some.term.now, c.in-Some.guard.now) (subst (λ (l : List (ℕ × ℕ)). Has l (c.in-Some.term.now, c.in-Some.guard.now)) (sym cut) (inl refl))

pub offset_bounds-outputs-term : goal.offset_bounds-outputs-term
offset_bounds-outputs-term c =
    let cut : c.loop-term.term-iterator ≡ (c.in-Some.term.now, c.in-Some.guard.now) ∷ c.next.new.self = rest_more deref_pair _ _ _ (c.in-Some.term, c.in-Some.guard) c.in-Some.is c.next.ensures.steps in
    let low = c.loop-term.invariant.there (c.in-Some.term.now, c.in-Some.guard.now) (subst (λ (l : List (ℕ × ℕ)). Has l (c.in-Some.term.now, c.in-Some.guard.now)) (sym cut) (inl refl)) in
    omega (arith, low)

pub loop-term-preserved : goal.loop-term-preserved
loop-term-preserved c =
    let cut : c.loop-term.term-iterator ≡ (c.in-Some.term.now, c.in-Some.guard.now) ∷ c.next.new.self = rest_more deref_pair _ _ _ (c.in-Some.term, c.in-Some.guard) c.in-Some.is c.next.ensures.steps in
    let outputs = c.args.outputs.now in
    let e : ℕ × ℕ = (c.in-Some.term.now, c.in-Some.guard.now) in
    record {
      pairs =
          ap (λ l. l ++ map (forbidden_of outputs) c.next.new.self) c.in_ok-push.ensures.items
          ∙ append_assoc c.loop-term.forbidden.items (forbidden_of outputs e ∷ []) (map (forbidden_of outputs) c.next.new.self)
          ∙ ap (λ (l : List (ℕ × ℕ)). c.loop-term.forbidden.items ++ map (forbidden_of outputs) l) (sym cut)
          ∙ c.loop-term.invariant.pairs;
      there = λ f h. c.loop-term.invariant.there f (subst (λ (l : List (ℕ × ℕ)). Has l f) (sym cut) (inr h));
    }

pub returns : goal.returns
returns c =
    let outputs = c.args.outputs.now in
    let entries : c.into_iter-term-iterator.result ≡ c.args.targets.now.entries = c.into_iter-term-iterator.ensures.into_iter_gives ∙ c.iter-term-items.ensures.rest in
    let ended : c.loop-term.term-iterator ≡ [] = rest_all deref_pair _ _ _ c.in-None.is c.next.ensures.steps in
    sym (append-nil c.loop-term.forbidden.items)
    ∙ ap (λ (l : List (ℕ × ℕ)). c.loop-term.forbidden.items ++ map (forbidden_of outputs) l) (sym ended)
    ∙ c.loop-term.invariant.pairs
    ∙ ap (λ (l : List (ℕ × ℕ)). c.args.forbidden.now.items ++ map (forbidden_of outputs) l) entries
