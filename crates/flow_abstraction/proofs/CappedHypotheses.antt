-- Lists that grow until they exceed a limit by one element.
use Rattle.std.proofs.Common.{◌≡◌, ℕ, ◌<◌, ◌≤◌, cond, nat_lt, List, [], ◌∷◌, ◌++◌, length, map, ⊎_elim, refl, sym, ap, ◌∙◌, arith, append_assoc}
use Rattle.std.proofs.lemmas.List.{length-append, length-map, map_push}
use Rattle.std.proofs.lemmas.Bool.{lt-ltb, le-ltb, cases_lt}
use Rattle.flow_abstraction.specs.CappedLists.{capped}

module _ {X : Type 0} (n : ℕ) where
  -- a list that exceeds the limit does not change
  pub capped-over : (xs ys : List X) → n < length xs → capped n xs ys ≡ xs
  capped-over xs [] h = refl
  capped-over xs (y ∷ ys) h = rw (lt-ltb n (length xs) h) (capped-over xs ys h)

  pub capped-append : (xs ys zs : List X) → capped n xs (ys ++ zs) ≡ capped n (capped n xs ys) zs
  capped-append xs [] zs = refl
  capped-append xs (y ∷ ys) zs = capped-append (cond (nat_lt n (length xs)) xs (xs ++ y ∷ [])) ys zs

  -- one list of elements after another
  pub capped_then : (old mid new ys zs : List X) → mid ≡ capped n old ys → new ≡ capped n mid zs → new ≡ capped n old (ys ++ zs)
  capped_then old mid new ys zs e f = f ∙ ap (λ xs. capped n xs zs) e ∙ sym (capped-append old ys zs)

  pub capped_two : (old mid new : List X) (x y : X) → mid ≡ capped n old (x ∷ []) → new ≡ capped n mid (y ∷ []) → new ≡ capped n old (x ∷ y ∷ [])
  capped_two old mid new x y e f = capped_then old mid new (x ∷ []) (y ∷ []) e f

  pub capped_four : (old one two three new a b c d : List X) → one ≡ capped n old a → two ≡ capped n one b → three ≡ capped n two c → new ≡ capped n three d → new ≡ capped n old (a ++ b ++ c ++ d)
  capped_four old one two three new a b c d e f g h =
      capped_then old three new (a ++ b ++ c) d (capped_then old two three (a ++ b) c (capped_then old one two a b e f) g) h

  pub capped_six : (old one two three four five new a b c d e f : List X) → one ≡ capped n old a → two ≡ capped n one b → three ≡ capped n two c → four ≡ capped n three d → five ≡ capped n four e → new ≡ capped n five f →
      new ≡ capped n old (a ++ b ++ c ++ d ++ e ++ f)
  capped_six old one two three four five new a b c d e f h1 h2 h3 h4 h5 h6 =
      capped_then old five new (a ++ b ++ c ++ d ++ e) f (capped_then old four five (a ++ b ++ c ++ d) e (capped_four old one two three four a b c d h1 h2 h3 h4) h5) h6

  -- a list within the limit has all elements
  pub capped-within : (xs ys : List X) → length (capped n xs ys) ≤ n → capped n xs ys ≡ xs ++ ys
  capped-within xs [] h = sym (append-none xs)
    where
      append-none : (zs : List X) → zs ++ [] ≡ zs
      append-none [] = refl
      append-none (z ∷ zs) = ap (λ ws. z ∷ ws) (append-none zs)
  capped-within xs (y ∷ ys) h =
      ⊎_elim
      (λ over. absurd (omega (arith, ap length (capped-over xs (y ∷ ys) over))))
      (λ le. let next : cond (nat_lt n (length xs)) xs (xs ++ y ∷ []) ≡ xs ++ y ∷ [] = rw (le-ltb n (length xs) le) refl in
      capped-within (cond (nat_lt n (length xs)) xs (xs ++ y ∷ [])) ys h ∙ ap (λ zs. zs ++ ys) next ∙ append_assoc xs (y ∷ []) ys)
      (cases_lt n (length xs))

  -- a list that exceeds the limit has more elements than the limit allows
  pub capped-beyond : (xs ys : List X) → n < length (capped n xs ys) → n < length (xs ++ ys)
  capped-beyond xs [] h = omega (arith, length-append xs ([]))
  capped-beyond xs (y ∷ ys) h =
      ⊎_elim
      (λ over. omega (arith, length-append xs (y ∷ ys)))
      (λ le. let next : cond (nat_lt n (length xs)) xs (xs ++ y ∷ []) ≡ xs ++ y ∷ [] = rw (le-ltb n (length xs) le) refl in
      let k = capped-beyond (cond (nat_lt n (length xs)) xs (xs ++ y ∷ [])) ys h in
      let same = ap (λ zs. length (zs ++ ys)) next ∙ ap length (append_assoc xs (y ∷ []) ys) in omega (arith, k, same))
      (cases_lt n (length xs))

-- elements of the program
module _ {X Y : Type 0} (n : ℕ) (view : X → Y) where
  pub past_limit : (xs : List X) (ys : List Y) → n < length xs → map view xs ≡ capped n (map view xs) ys
  past_limit xs ys h = sym (capped-over n (map view xs) ys (omega (arith, length-map xs view)))

  pub within_limit : (xs : List X) (x : X) → length xs ≤ n → map view (xs ++ x ∷ []) ≡ capped n (map view xs) (view x ∷ [])
  within_limit xs x h =
      map_push view xs x ∙ sym (let le : length (map view xs) ≤ n = omega (arith, length-map xs view) in rw (le-ltb n (length (map view xs)) le) refl)

  -- a list that is made from nothing
  pub all_within : (old new : List X) (ys : List Y) → old ≡ [] → map view new ≡ capped n (map view old) ys → length new ≤ n → map view new ≡ ys
  all_within old new ys none e le =
      let from : map view new ≡ capped n [] ys = e ∙ ap (λ xs. capped n (map view xs) ys) none in
      from ∙ capped-within n [] ys (omega (arith, ap length from, length-map new view))

  pub more_than_limit : (old new : List X) (ys : List Y) → old ≡ [] → map view new ≡ capped n (map view old) ys → n < length new → n < length ys
  more_than_limit old new ys none e lt =
      let from : map view new ≡ capped n [] ys = e ∙ ap (λ xs. capped n (map view xs) ys) none in
      capped-beyond n [] ys (omega (arith, ap length from, length-map new view))
