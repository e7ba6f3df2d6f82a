-- Two frames with the same truth values: if each state and each step of the first is one of the second, a term relates
-- in the second what it relates in the first.
use Rattle.std.proofs.Common.{◌≡◌, ℕ, List, [], ◌∷◌, refl, subst}
use Rattle.std.specs.Bool.{IsTrue}
use Rattle.kat_model.specs.Trees.{Term}
use Rattle.kat_model.specs.Relations.{Frame, RelatesIn}
use Rattle.kat_model.specs.Strings.{accepts, Hop, IsPath, spelled}
use Rattle.kat_model.proofs.Paths.{relates_spelled, spelled_relates}

-- the last state of a path
pub last_is_state : {S : Type 0} (frame : Frame S) (i j : S) (hops : List (Hop S)) → frame.IsState i → IsPath frame i hops j → frame.IsState j
last_is_state frame i j [] s path = subst frame.IsState path s
last_is_state frame i j (h ∷ hops) s path = last_is_state frame h.to j hops path.0 path.2

module _ {S : Type 0} (first second : Frame S)
    (states : (s : S) → first.IsState s → second.IsState s)
    (atoms : (s : S) → first.atom s ≡ second.atom s)
    (steps : (a : ℕ) (s t : S) → first.IsState s → first.IsState t → first.Acts a s t → second.Acts a s t) where
  path_too : (i j : S) (hops : List (Hop S)) → first.IsState i → IsPath first i hops j → IsPath second i hops j
  path_too i j [] s path = path
  path_too i j (h ∷ hops) s path = (states h.to path.0, steps h.act i h.to s path.0 path.1, path_too h.to j hops path.0 path.2)

  spelled_too : (hops : List (Hop S)) → spelled first hops ≡ spelled second hops
  spelled_too [] = refl
  spelled_too (h ∷ hops) = λ k. record { act = h.act; atom = atoms h.to k } ∷ spelled_too hops k

  pub relates_too : (e : Term) (i j : S) → first.IsState i → first.IsState j → RelatesIn first e i j → RelatesIn second e i j
  relates_too e i j si sj r =
      let s = relates_spelled first e i j si sj r in
      let from : IsTrue (accepts e (second.atom i) (spelled first s.0)) = subst (λ a. IsTrue (accepts e a (spelled first s.0))) (atoms i) s.2 in
      spelled_relates second e i j s.0 (states i si) (path_too i j s.0 si s.1) (subst (λ ms. IsTrue (accepts e (second.atom i) ms)) (spelled_too s.0) from)
