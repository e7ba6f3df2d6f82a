-- The language of a product is the concatenation of two languages. The language of a star consists of the
-- concatenations of any number of strings of one language.
use Rattle.std.proofs.Common.{◌≡◌, ℕ, zero, suc, ◌≤◌, ⊎_elim, List, [], ◌∷◌, ◌++◌, length, refl, sym, ap, ◌∙◌, subst, arith}
use Rattle.std.specs.Bool.{IsTrue}
use Rattle.std.specs.List.{flat_map}
use Rattle.std.proofs.lemmas.Bool.{and_parts, and_from}
use Rattle.std.proofs.lemmas.List.{length-append}
use Rattle.kat_model.specs.Trees.{Term, product, star}
use Rattle.kat_model.specs.Members.{Has}
use Rattle.kat_model.specs.Steps.{Atom, dot, out, next}
use Rattle.kat_model.specs.Strings.{Move, last_atom, accepts}
use Rattle.kat_model.specs.Laws.{IsCut, AcceptsEach, AreJoined}
use Rattle.kat_model.proofs.Lists.{has_map, map_has, has_next_product, next_product_first, next_product_second}
use Rattle.kat_model.proofs.Acceptance.{accepts_step, step_accepts, accepts-dot}

pub last_atom-append : (atom : Atom) (xs ys : List Move) → last_atom atom (xs ++ ys) ≡ last_atom (last_atom atom xs) ys
last_atom-append atom [] ys = refl
last_atom-append atom (m ∷ xs) ys = last_atom-append m.atom xs ys

pub product_accepts : (e f : Term) (atom : Atom) (before after : List Move) → IsTrue (accepts e atom before) → IsTrue (accepts f (last_atom atom before) after) → IsTrue (accepts (product e f) atom (before ++ after))
product_accepts e f atom [] [] h g = and_from (out e atom) (out f atom) h g
product_accepts e f atom [] (m ∷ ms) h g =
    let x = accepts_step f atom m ms g in
    step_accepts (product e f) atom m ms x.0 (next_product_second atom m.act e f x.0 h x.1) x.2
product_accepts e f atom (m ∷ ms) after h g =
    let x = accepts_step e atom m ms h in
    step_accepts (product e f) atom m (ms ++ after) (dot x.0 f) (next_product_first atom m.act e f x.0 x.1)
    (accepts-dot x.0 f m.atom (ms ++ after) ∙ product_accepts x.0 f m.atom ms after x.2 g)

pub accepts_product : (e f : Term) (atom : Atom) (ms : List Move) → IsTrue (accepts (product e f) atom ms) → IsCut e f atom ms
accepts_product e f atom [] h =
    let p = and_parts (out e atom) (out f atom) h in
    record { before = []; after = []; whole = refl; first = p.0; second = p.1 }
accepts_product e f atom (m ∷ ms) h =
    let x = accepts_step (product e f) atom m ms h in
    ⊎_elim
    (λ y.
    let c = accepts_product y.0 f m.atom ms (sym (accepts-dot y.0 f m.atom ms) ∙ subst (λ z. IsTrue (accepts z m.atom ms)) (sym y.2) x.2) in
    record {
      before = m ∷ c.before;
      after = c.after;
      whole = ap (λ l. m ∷ l) c.whole;
      first = step_accepts e atom m c.before y.0 y.1 c.first;
      second = c.second;
    })
    (λ q. record { before = []; after = m ∷ ms; whole = refl; first = q.0; second = step_accepts f atom m ms x.0 q.1 x.2 })
    (has_next_product atom m.act e f x.0 x.1)

-- a piece followed by a string of the star is a string of the star
pub star_accepts_piece : (e : Term) (atom : Atom) (piece rest : List Move) → IsTrue (accepts e atom piece) → IsTrue (accepts (star e) (last_atom atom piece) rest) → IsTrue (accepts (star e) atom (piece ++ rest))
star_accepts_piece e atom [] rest h g = g
star_accepts_piece e atom (m ∷ ms) rest h g =
    let x = accepts_step e atom m ms h in
    step_accepts (star e) atom m (ms ++ rest) (dot x.0 (star e)) (map_has (λ y. dot y (star e)) (next e atom m.act) x.0 x.1)
    (accepts-dot x.0 (star e) m.atom (ms ++ rest) ∙ product_accepts x.0 (star e) m.atom ms rest x.2 g)

pub star_accepts : (e : Term) (atom : Atom) (ps : List (List Move)) → AcceptsEach e atom ps → IsTrue (accepts (star e) atom (flat_map (λ p. p) ps))
star_accepts e atom [] h = refl
star_accepts e atom (p ∷ ps) h = star_accepts_piece e atom p (flat_map (λ q. q) ps) h.0 (star_accepts e (last_atom atom p) ps h.1)

-- after its first move, a string of a star is the rest of the first piece and a string of the star
accepts_star_step : (e : Term) (atom : Atom) (m : Move) (ms : List Move) → IsTrue (accepts (star e) atom (m ∷ ms)) → (x : Term) × Has (next e atom m.act) x × IsCut x (star e) m.atom ms
accepts_star_step e atom m ms h =
    let x = accepts_step (star e) atom m ms h in
    let y = has_map (λ z. dot z (star e)) (next e atom m.act) x.0 x.1 in
    (y.0, y.1, accepts_product y.0 (star e) m.atom ms (sym (accepts-dot y.0 (star e) m.atom ms) ∙ subst (λ z. IsTrue (accepts z m.atom ms)) (sym y.2) x.2))

accepts_star_within : (n : ℕ) (e : Term) (atom : Atom) (ms : List Move) → length ms ≤ n → IsTrue (accepts (star e) atom ms) → AreJoined e atom ms
accepts_star_within n e atom [] le h = ([], refl, tt)
accepts_star_within zero e atom (m ∷ ms) le h = absurd (omega arith)
accepts_star_within (suc n) e atom (m ∷ ms) le h =
    let x = accepts_star_step e atom m ms h in
    let c = x.2 in
    let shorter : length c.after ≤ n = omega (arith, ap length c.whole, length-append c.before c.after) in
    let rest = accepts_star_within n e (last_atom m.atom c.before) c.after shorter c.second in (
      (m ∷ c.before) ∷ rest.0,
      ap (λ l. m ∷ l) c.whole ∙ ap (λ l. m ∷ (c.before ++ l)) rest.1,
      (step_accepts e atom m c.before x.0 x.1 c.first, rest.2),
    )

pub accepts_star : (e : Term) (atom : Atom) (ms : List Move) → IsTrue (accepts (star e) atom ms) → AreJoined e atom ms
accepts_star e atom ms h = accepts_star_within (length ms) e atom ms (omega arith) h
