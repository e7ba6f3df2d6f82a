-- Terms with at most one step under each atom, by their form.
use Rattle.std.proofs.Common.{◌≡◌, ℕ, ⊎_elim, sym, ap, ◌∙◌, true}
use Rattle.std.proofs.lemmas.Bool.{false≢true, and_parts}
use Rattle.kat_model.specs.Trees.{TestTree, Term, zero, one, test, act, sum, product, star}
use Rattle.kat_model.specs.Members.{Has}
use Rattle.kat_model.specs.Steps.{Atom, dot, out, next}
use Rattle.kat_model.specs.Laws.{HasOneStep}
use Rattle.kat_model.proofs.Lists.{has_append, has_map, has_next_act, has_next_product}

-- under each atom there is at most one step
abbrev pub IsAlone : Term → Type 0
IsAlone e = (atom : Atom) (a b : ℕ) (x y : Term) → Has (next e atom a) x → Has (next e atom b) y → (a ≡ b) × (x ≡ y)

-- there is no step under an atom that the term accepts
abbrev pub IsEnded : Term → Type 0
IsEnded e = (atom : Atom) (a : ℕ) (x : Term) → out e atom ≡ true → Has (next e atom a) x → ⊥

module _ (e f : Term) (first : IsAlone e) (second : IsAlone f) where
  pub alone_sum : ((atom : Atom) (a b : ℕ) (x y : Term) → Has (next e atom a) x → Has (next f atom b) y → ⊥) → IsAlone (sum e f)
  alone_sum apart atom a b x y h k =
      ⊎_elim
      (λ p. ⊎_elim (λ q. first atom a b x y p q) (λ q. absurd (apart atom a b x y p q)) (has_append (next e atom b) _ y k))
      (λ p. ⊎_elim (λ q. absurd (apart atom b a y x q p)) (λ q. second atom a b x y p q) (has_append (next e atom b) _ y k))
      (has_append (next e atom a) _ x h)

  pub alone_product : ((atom : Atom) (a b : ℕ) (x y : Term) → out e atom ≡ true → Has (next e atom a) x → Has (next f atom b) y → ⊥) → IsAlone (product e f)
  alone_product apart atom a b x y h k =
      ⊎_elim
      (λ p. ⊎_elim (λ q. let r = first atom a b p.0 q.0 p.1 q.1 in (r.0, sym p.2 ∙ ap (λ z. dot z f) r.1 ∙ q.2)) (λ q. absurd (apart atom a b p.0 y q.0 p.1 q.1)) (has_next_product atom b e f y k))
      (λ p. ⊎_elim (λ q. absurd (apart atom b a q.0 x p.0 q.1 p.1)) (λ q. second atom a b x y p.1 q.1) (has_next_product atom b e f y k))
      (has_next_product atom a e f x h)

pub alone_star : (e : Term) → IsAlone e → IsAlone (star e)
alone_star e alone atom a b x y h k =
    let p = has_map (λ z. dot z (star e)) (next e atom a) x h in
    let q = has_map (λ z. dot z (star e)) (next e atom b) y k in
    let r = alone atom a b p.0 q.0 p.1 q.1 in
    (r.0, sym p.2 ∙ ap (λ z. dot z (star e)) r.1 ∙ q.2)

pub one_step_product : (e f : Term) → HasOneStep e → HasOneStep f → HasOneStep (product e f)
one_step_product e f d g =
    record {
      ended = λ atom a x o h. let p = and_parts (out e atom) (out f atom) o in ⊎_elim (λ y. d.ended atom a y.0 p.0 y.1) (λ q. g.ended atom a x p.1 q.1) (has_next_product atom a e f x h);
      alone = alone_product e f d.alone g.alone (λ atom a b x y o h k. d.ended atom a x o h);
    }

pub one_step_dot : (e f : Term) → HasOneStep e → HasOneStep f → HasOneStep (dot e f)
one_step_dot zero f d g = one_step_product zero f d g
one_step_dot one f d g = g
one_step_dot (test b) f d g = one_step_product (test b) f d g
one_step_dot (act a) f d g = one_step_product (act a) f d g
one_step_dot (sum e h) f d g = one_step_product (sum e h) f d g
one_step_dot (product e h) f d g = one_step_product (product e h) f d g
one_step_dot (star e) f d g = one_step_product (star e) f d g

pub one_step_test : (b : TestTree) → HasOneStep (test b)
one_step_test b = record { ended = λ atom a x o h. h; alone = λ atom a c x y h k. absurd h }

pub one_step_act : (c : ℕ) → HasOneStep (act c)
one_step_act c =
    record {
      ended = λ atom a x o h. false≢true o;
      alone = λ atom a b x y h k. let p = has_next_act atom a c x h in let q = has_next_act atom b c y k in (p.0 ∙ sym q.0, sym p.1 ∙ q.1);
    }

pub one_step_none : (e : Term) → ((atom : Atom) (a : ℕ) (x : Term) → Has (next e atom a) x → ⊥) → HasOneStep e
one_step_none e none = record { ended = λ atom a x o h. none atom a x h; alone = λ atom a b x y h k. absurd (none atom a x h) }
