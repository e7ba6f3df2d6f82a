-- A term relates two states of a frame exactly when it accepts what some path between them spells.
use Rattle.std.proofs.Common.{◌≡◌, ℕ, inl, inr, ⊎_elim, List, [], ◌∷◌, ◌++◌, refl, sym, ap, subst}
use Rattle.std.specs.Bool.{IsTrue}
use Rattle.std.proofs.lemmas.Bool.{false≢true, and_parts, or_cases, or_left, or_right}
use Rattle.kat_model.specs.Trees.{Term, zero, one, test, act, sum, product, star}
use Rattle.kat_model.specs.Members.{Has}
use Rattle.kat_model.specs.Steps.{dot, out, next}
use Rattle.kat_model.specs.Relations.{Frame, Along, RelatesIn}
use Rattle.kat_model.specs.Strings.{last_atom, accepts, Hop, IsPath, spelled}
use Rattle.kat_model.proofs.Lists.{has_append, has_map, has_next_act, has_next_product}
use Rattle.kat_model.proofs.Acceptance.{accepts_step, act_accepts, accepts-sum}
use Rattle.kat_model.proofs.Cuts.{product_accepts, star_accepts_piece}

-- some path from i to j spells a string that the term accepts
abbrev pub IsSpelledIn : {S : Type 0} → Frame S → Term → S → S → Type 0
IsSpelledIn {S} frame e i j = (hops : List (Hop S)) × IsPath frame i hops j × IsTrue (accepts e (frame.atom i) (spelled frame hops))

module _ {S : Type 0} (frame : Frame S) where
  pub path_append : (i k j : S) (xs ys : List (Hop S)) → IsPath frame i xs k → IsPath frame k ys j → IsPath frame i (xs ++ ys) j
  path_append i k j [] ys p q = subst (λ s. IsPath frame s ys j) (sym p) q
  path_append i k j (h ∷ xs) ys p q = (p.0, p.1, path_append h.to k j xs ys p.2 q)

  pub spelled-append : (xs ys : List (Hop S)) → spelled frame (xs ++ ys) ≡ spelled frame xs ++ spelled frame ys
  spelled-append [] ys = refl
  spelled-append (h ∷ xs) ys = ap (λ l. record { act = h.act; atom = frame.atom h.to } ∷ l) (spelled-append xs ys)

  pub last_atom-spelled : (i j : S) (hops : List (Hop S)) → IsPath frame i hops j → last_atom (frame.atom i) (spelled frame hops) ≡ frame.atom j
  last_atom-spelled i j [] p = ap (λ s. frame.atom s) p
  last_atom-spelled i j (h ∷ hops) p = last_atom-spelled h.to j hops p.2

  -- if a term accepts what a path spells, it relates the ends of the path

  out_relates : (e : Term) (i : S) → frame.IsState i → IsTrue (out e (frame.atom i)) → RelatesIn frame e i i
  out_relates zero i s h = absurd (false≢true h)
  out_relates one i s h = refl
  out_relates (test b) i s h = (refl, h)
  out_relates (act a) i s h = absurd (false≢true h)
  out_relates (sum e f) i s h = ⊎_elim (λ p. inl (out_relates e i s p)) (λ q. inr (out_relates f i s q)) (or_cases (out e (frame.atom i)) (out f (frame.atom i)) h)
  out_relates (product e f) i s h =
      let p = and_parts (out e (frame.atom i)) (out f (frame.atom i)) h in
      (i, s, out_relates e i s p.0, out_relates f i s p.1)
  out_relates (star e) i s h = ([], refl)

  pub dot_relates : (e f : Term) (i j : S) → frame.IsState i → RelatesIn frame (dot e f) i j → RelatesIn frame (product e f) i j
  dot_relates zero f i j s r = r
  dot_relates one f i j s r = (i, s, refl, r)
  dot_relates (test b) f i j s r = r
  dot_relates (act a) f i j s r = r
  dot_relates (sum e g) f i j s r = r
  dot_relates (product e g) f i j s r = r
  dot_relates (star e) f i j s r = r

  -- an action, followed by what a next term of the term relates
  pub step_relates : (e : Term) (a : ℕ) (i k j : S) (x : Term) → frame.IsState i → frame.IsState k → frame.Acts a i k → Has (next e (frame.atom i) a) x → RelatesIn frame x k j → RelatesIn frame e i j
  step_relates zero a i k j x si sk m h r = absurd h
  step_relates one a i k j x si sk m h r = absurd h
  step_relates (test b) a i k j x si sk m h r = absurd h
  step_relates (act b) a i k j x si sk m h r =
      let p = has_next_act (frame.atom i) a b x h in
      let e : k ≡ j = subst (λ z. RelatesIn frame z k j) (sym p.1) r in
      rw (← p.0, ← e) m
  step_relates (sum e f) a i k j x si sk m h r =
      ⊎_elim (λ p. inl (step_relates e a i k j x si sk m p r)) (λ q. inr (step_relates f a i k j x si sk m q r)) (has_append (next e (frame.atom i) a) _ x h)
  step_relates (product e f) a i k j x si sk m h r =
      ⊎_elim
      (λ y.
      let p = dot_relates y.0 f k j sk (subst (λ z. RelatesIn frame z k j) (sym y.2) r) in
      (p.0, p.1, step_relates e a i k p.0 y.0 si sk m y.1 p.2, p.3))
      (λ q. (i, si, out_relates e i si q.0, step_relates f a i k j x si sk m q.1 r))
      (has_next_product (frame.atom i) a e f x h)
  step_relates (star e) a i k j x si sk m h r =
      let y = has_map (λ z. dot z (star e)) (next e (frame.atom i) a) x h in
      let p = dot_relates y.0 (star e) k j sk (subst (λ z. RelatesIn frame z k j) (sym y.2) r) in
      (p.0 ∷ p.3.0, (p.1, step_relates e a i k p.0 y.0 si sk m y.1 p.2, p.3.1))

  pub spelled_relates : (e : Term) (i j : S) (hops : List (Hop S)) → frame.IsState i → IsPath frame i hops j → IsTrue (accepts e (frame.atom i) (spelled frame hops)) → RelatesIn frame e i j
  spelled_relates e i j [] s p h = subst (λ k. RelatesIn frame e i k) p (out_relates e i s h)
  spelled_relates e i j (m ∷ hops) s p h =
      let x = accepts_step e (frame.atom i) (record { act = m.act; atom = frame.atom m.to }) (spelled frame hops) h in
      step_relates e m.act i m.to j x.0 s p.0 p.1 x.1 (spelled_relates x.0 m.to j hops p.0 p.2 x.2)

  -- if a term relates two states, it accepts what some path between them spells

  product_spelled : (e f : Term) (i k j : S) → IsSpelledIn frame e i k → IsSpelledIn frame f k j → IsSpelledIn frame (product e f) i j
  product_spelled e f i k j p q =
      let second = subst (λ a. IsTrue (accepts f a (spelled frame q.0))) (sym (last_atom-spelled i k p.0 p.1)) q.2 in
      (p.0 ++ q.0, path_append i k j p.0 q.0 p.1 q.1, rw (spelled-append p.0 q.0) (product_accepts e f (frame.atom i) (spelled frame p.0) (spelled frame q.0) p.2 second))

  star_spelled : (e : Term) (i k j : S) → IsSpelledIn frame e i k → IsSpelledIn frame (star e) k j → IsSpelledIn frame (star e) i j
  star_spelled e i k j p q =
      let second = subst (λ a. IsTrue (accepts (star e) a (spelled frame q.0))) (sym (last_atom-spelled i k p.0 p.1)) q.2 in
      (p.0 ++ q.0, path_append i k j p.0 q.0 p.1 q.1, rw (spelled-append p.0 q.0) (star_accepts_piece e (frame.atom i) (spelled frame p.0) (spelled frame q.0) p.2 second))

  along_spelled : (e : Term) (ks : List S) (i j : S) → ((k l : S) → frame.IsState k → frame.IsState l → RelatesIn frame e k l → IsSpelledIn frame e k l) → frame.IsState i → Along frame.IsState (RelatesIn frame e) i ks j → IsSpelledIn frame (star e) i j
  along_spelled e [] i j each s h = ([], h, refl)
  along_spelled e (k ∷ ks) i j each s h = star_spelled e i k j (each i k s h.0 h.1) (along_spelled e ks k j each h.0 h.2)

  pub relates_spelled : (e : Term) (i j : S) → frame.IsState i → frame.IsState j → RelatesIn frame e i j → IsSpelledIn frame e i j
  relates_spelled zero i j si sj r = absurd r
  relates_spelled one i j si sj r = ([], r, refl)
  relates_spelled (test b) i j si sj r = ([], r.0, r.1)
  relates_spelled (act a) i j si sj r = (record { act = a; to = j } ∷ [], (sj, r, refl), act_accepts a (frame.atom i) (frame.atom j))
  relates_spelled (sum e f) i j si sj r =
      ⊎_elim
      (λ p.
      let h = relates_spelled e i j si sj p in
      (h.0, h.1, rw (accepts-sum e f (frame.atom i) (spelled frame h.0)) (or_left (accepts e (frame.atom i) (spelled frame h.0)) _ h.2)))
      (λ q.
      let h = relates_spelled f i j si sj q in
      (h.0, h.1, rw (accepts-sum e f (frame.atom i) (spelled frame h.0)) (or_right (accepts e (frame.atom i) (spelled frame h.0)) _ h.2)))
      r
  relates_spelled (product e f) i j si sj r = product_spelled e f i r.0 j (relates_spelled e i r.0 si r.1 r.2) (relates_spelled f r.0 j r.1 sj r.3)
  relates_spelled (star e) i j si sj r = along_spelled e r.0 i j (λ k l sk sl h. relates_spelled e k l sk sl h) si r.1
