-- The comparisons that rounds append. A comparison that was not appended once is not appended later, so only new
-- comparisons need substitution.
use Rattle.std.proofs.Common.{◌≡◌, ℕ, zero, suc, ◌+◌, ◌-◌, ◌<◌, ◌≤◌, Bool, true, false, not, cond, nat_lt, List, [], ◌∷◌, ◌++◌, length, take, drop, get_or, ◌⊎◌, inl, inr, ⊎_elim, refl, sym, ap, subst, ◌∙◌, arith, nat_le}
use Rattle.std.specs.List.{list_any, flat_map}
use Rattle.std.proofs.lemmas.List.{length-append, append-nil, append_assoc, take-append-drop, drop_more, drop_all, take_at}
use Rattle.std.proofs.lemmas.List.Concat.{flat_map-append}
use Rattle.std.proofs.lemmas.Bool.{true≢false, ltb-true, ltb-false, le-ltb, or_left, or_right, or_cases, and_left, and_right, and_cases, and_parts}
use Rattle.linear_forms.specs.Comparisons.{atomic_nodes, substituted}
use Rattle.linear_forms.specs.declared.comparison.Atomic.{Atomic}
use Rattle.abstraction.specs.Comparisons.{Assignment, atomics}
use Rattle.linear_forms.specs.Sameness.{is_same_comparison}
use Rattle.abstraction.specs.Rounds.{is_appended, append_all, substitutions, round, rounds}
use Rattle.linear_forms.proofs.Sameness.{is_same_comparison-same}
use Rattle.abstraction.specs.declared.rounds.TheConstants.{MAX_APPENDED_NODES}

list_any-append : {X : Type 0} (p : X → Bool) (xs ys : List X) → list_any p xs ≡ true → list_any p (xs ++ ys) ≡ true
list_any-append p [] ys h = absurd (true≢false (sym h))
list_any-append p (x ∷ xs) ys h =
    ⊎_elim (λ e. or_left (p x) (list_any p (xs ++ ys)) e) (λ e. or_right (p x) (list_any p (xs ++ ys)) (list_any-append p xs ys e)) (or_cases (p x) (list_any p xs) h)

list_any-last : {X : Type 0} (p : X → Bool) (xs : List X) (y : X) → p y ≡ true → list_any p (xs ++ y ∷ []) ≡ true
list_any-last p [] y h = rw (h) refl
list_any-last p (x ∷ xs) y h = or_right (p x) (list_any p (xs ++ y ∷ [])) (list_any-last p xs y h)

module _ (most : ℕ) where
  pub append_all-append : (table xs ys : List Atomic) → append_all most table (xs ++ ys) ≡ append_all most (append_all most table xs) ys
  append_all-append table [] ys = refl
  append_all-append table (x ∷ xs) ys = append_all-append (cond (is_appended most table x) (table ++ x ∷ []) table) xs ys

  -- one step of a loop that appends the comparisons of each element
  pub appended_more : {X : Type 0} (g : X → List Atomic) (xs : List X) (i : ℕ) (x : X) → i < length xs → x ≡ get_or xs i x → (rows new : List Atomic) →
      new ≡ append_all most rows (g x) → append_all most new (flat_map g (drop (i + 1) xs)) ≡ append_all most rows (flat_map g (drop i xs))
  appended_more g xs i x lt e rows new f =
      let left : drop i xs ≡ x ∷ drop (i + 1) xs = drop_more xs i x lt ∙ ap (λ y. y ∷ drop (i + 1) xs) (sym e) in
      rw (f, left) (sym (append_all-append rows (g x) (flat_map g (drop (i + 1) xs))))

  pub appended_all : {X : Type 0} (g : X → List Atomic) (xs : List X) (i : ℕ) → length xs ≤ i → (rows end : List Atomic) → append_all most rows (flat_map g (drop i xs)) ≡ end → rows ≡ end
  appended_all g xs i le rows end e = ap (λ l. append_all most rows (flat_map g l)) (sym (drop_all i xs le)) ∙ e

  -- the reasons why a comparison is not appended
  abbrev Refused : List Atomic → Atomic → Type 0
  Refused table a = (list_any (is_same_comparison a) table ≡ true) ⊎ ((nat_le (atomic_nodes a) MAX_APPENDED_NODES ≡ false) ⊎ (most ≤ length table))

  refused : (table : List Atomic) (a : Atomic) → is_appended most table a ≡ false → Refused table a
  refused table a h = by_there (list_any (is_same_comparison a) table) refl
    where
      by_there : (b : Bool) → list_any (is_same_comparison a) table ≡ b → Refused table a
      by_there true e = inl e
      by_there false e =
          ⊎_elim (λ k. inr (inl k)) (λ k. inr (inr (ltb-false (length table) most k)))
          (and_cases (nat_le (atomic_nodes a) MAX_APPENDED_NODES) (nat_lt (length table) most) (rw (e) at h))

  not_appended : (table : List Atomic) (a : Atomic) → Refused table a → is_appended most table a ≡ false
  not_appended table a (inl h) = rw (h) refl
  not_appended table a (inr (inl h)) = and_right (not (list_any (is_same_comparison a) table)) _ (and_left (nat_le (atomic_nodes a) MAX_APPENDED_NODES) (nat_lt (length table) most) h)
  not_appended table a (inr (inr h)) =
      and_right (not (list_any (is_same_comparison a) table)) _ (and_right (nat_le (atomic_nodes a) MAX_APPENDED_NODES) (nat_lt (length table) most) (le-ltb (length table) most h))

  refused_later : (table more : List Atomic) (a : Atomic) → Refused table a → Refused (table ++ more) a
  refused_later table more a (inl h) = inl (list_any-append (is_same_comparison a) table more h)
  refused_later table more a (inr (inl h)) = inr (inl h)
  refused_later table more a (inr (inr h)) = inr (inr (omega (arith, length-append table more)))

  -- a full table does not change
  pub append_all-full : (table xs : List Atomic) → most ≤ length table → append_all most table xs ≡ table
  append_all-full table [] h = refl
  append_all-full table (x ∷ xs) h = rw (not_appended table x (inr (inr h))) (append_all-full table xs h)

  -- ---- processed comparisons

  abbrev pub AllRefused : List Atomic → List Atomic → Type 0
  AllRefused table [] = Unit {0}
  AllRefused table (x ∷ xs) = Refused table x × AllRefused table xs

  all_refused_later : (table more xs : List Atomic) → AllRefused table xs → AllRefused (table ++ more) xs
  all_refused_later table more [] h = tt
  all_refused_later table more (x ∷ xs) h = (refused_later table more x h.0, all_refused_later table more xs h.1)

  all_refused_right : (table xs ys : List Atomic) → AllRefused table (xs ++ ys) → AllRefused table ys
  all_refused_right table [] ys h = h
  all_refused_right table (x ∷ xs) ys h = all_refused_right table xs ys h.1

  all_refused_left : (table xs ys : List Atomic) → AllRefused table (xs ++ ys) → AllRefused table xs
  all_refused_left table [] ys h = tt
  all_refused_left table (x ∷ xs) ys h = (h.0, all_refused_left table xs ys h.1)

  -- refused comparisons change nothing
  append_all-refused : (table xs ys : List Atomic) → AllRefused table xs → append_all most table (xs ++ ys) ≡ append_all most table ys
  append_all-refused table [] ys h = refl
  append_all-refused table (x ∷ xs) ys h =
      ap (λ b. append_all most (cond b (table ++ x ∷ []) table) (xs ++ ys)) (not_appended table x h.0) ∙ append_all-refused table xs ys h.1

  -- a table grows at its end
  one_appended : (table : List Atomic) (x : Atomic) (b : Bool) → (more : List Atomic) × (cond b (table ++ x ∷ []) table ≡ table ++ more)
  one_appended table x true = (x ∷ [], refl)
  one_appended table x false = ([], sym (append-nil table))

  pub append_all-extends : (table xs : List Atomic) → (more : List Atomic) × (append_all most table xs ≡ table ++ more)
  append_all-extends table [] = ([], sym (append-nil table))
  append_all-extends table (x ∷ xs) =
      let a = one_appended table x (is_appended most table x) in
      let b = append_all-extends (cond (is_appended most table x) (table ++ x ∷ []) table) xs in
      (a.0 ++ b.0, b.1 ∙ ap (λ t. t ++ b.0) a.1 ∙ append_assoc table a.0 b.0)

  -- a comparison is refused after it was processed once
  gone_over_one : (table : List Atomic) (x : Atomic) (b : Bool) → is_appended most table x ≡ b → Refused (cond b (table ++ x ∷ []) table) x
  gone_over_one table x true h = inl (list_any-last (is_same_comparison x) table x (is_same_comparison-same x))
  gone_over_one table x false h = refused table x h

  pub gone_over : (table xs : List Atomic) → AllRefused (append_all most table xs) xs
  gone_over table [] = tt
  gone_over table (x ∷ xs) =
      let next = cond (is_appended most table x) (table ++ x ∷ []) table in
      let grown = append_all-extends next xs in
      (subst (λ t. Refused t x) (sym grown.1) (refused_later next grown.0 x (gone_over_one table x (is_appended most table x) refl)), gone_over next xs)

  -- ---- rounds

  module _ (m : ℕ) (assigned : List Assignment) where
    -- a round needs to process only the comparisons that were not processed before
    only_new : (bs : List Assignment) (table old new : List Atomic) → AllRefused table (substitutions m bs old) → append_all most table (substitutions m bs (old ++ new)) ≡ append_all most table (substitutions m bs new)
    only_new [] table old new h = refl
    only_new (a ∷ bs) table old new h =
        let g : Atomic → List Atomic = λ phi. atomics (substituted m a.var a.form phi) in
        let first = all_refused_left table (flat_map g old) (substitutions m bs old) h in
        let others = all_refused_right table (flat_map g old) (substitutions m bs old) h in
        let grown = append_all-extends table (flat_map g new) in
        let next = append_all most table (flat_map g new) in
        let later : AllRefused next (substitutions m bs old) = subst (λ t. AllRefused t (substitutions m bs old)) (sym grown.1) (all_refused_later table grown.0 (substitutions m bs old) others) in
        ap (λ l. append_all most table (l ++ substitutions m bs (old ++ new))) (flat_map-append g old new)
        ∙ ap (append_all most table) (append_assoc (flat_map g old) (flat_map g new) (substitutions m bs (old ++ new)))
        ∙ append_all-refused table (flat_map g old) (flat_map g new ++ substitutions m bs (old ++ new)) first
        ∙ append_all-append table (flat_map g new) (substitutions m bs (old ++ new))
        ∙ only_new bs next old new later
        ∙ sym (append_all-append table (flat_map g new) (substitutions m bs new))

    -- if the first `done` comparisons were processed, a round processes the others
    pub round-rest : (table : List Atomic) (done : ℕ) → AllRefused table (substitutions m assigned (take done table)) → round m most assigned table ≡ append_all most table (substitutions m assigned (drop done table))
    round-rest table done h =
        ap (λ t. append_all most table (substitutions m assigned t)) (sym (take-append-drop done table)) ∙ only_new assigned table (take done table) (drop done table) h

    -- after a round, all comparisons from before it were processed
    pub round_refused : (table new : List Atomic) → new ≡ round m most assigned table → AllRefused new (substitutions m assigned (take (length table) new))
    round_refused table new e =
        let grown = append_all-extends table (substitutions m assigned table) in
        let front : take (length table) new ≡ table = ap (take (length table)) (e ∙ grown.1) ∙ take_at table grown.0 (length table) refl in
        rw (front) (subst (λ t. AllRefused t (substitutions m assigned table)) (sym e) (gone_over table (substitutions m assigned table)))

    -- a table that one round does not change is unchanged after all rounds
    stays : (n : ℕ) (table : List Atomic) → round m most assigned table ≡ table → rounds n m most assigned table ≡ table
    stays zero table h = refl
    stays (suc n) table h = rw (h) (stays n table h)

    pub rounds-full : (n : ℕ) (table : List Atomic) → most ≤ length table → rounds n m most assigned table ≡ table
    rounds-full n table h = stays n table (append_all-full table (substitutions m assigned table) h)

    nothing_left : (bs : List Assignment) → substitutions m bs [] ≡ []
    nothing_left [] = refl
    nothing_left (a ∷ bs) = nothing_left bs

    pub rounds-gone_over : (n : ℕ) (table : List Atomic) (done : ℕ) → length table ≤ done → AllRefused table (substitutions m assigned (take done table)) → rounds n m most assigned table ≡ table
    rounds-gone_over n table done le h =
        stays n table (round-rest table done h ∙ ap (λ t. append_all most table (substitutions m assigned t)) (drop_all done table le) ∙ ap (append_all most table) (nothing_left assigned))

    -- at the start, no comparison was processed
    pub none_gone_over : (bs : List Assignment) (table : List Atomic) → AllRefused table (substitutions m bs [])
    none_gone_over [] table = tt
    none_gone_over (a ∷ bs) table = none_gone_over bs table

    -- one step of a loop over the assignments
    pub substitutions_go_on : (bs : List Assignment) (fresh : List Atomic) (i : ℕ) (a : Assignment) → i < length bs → a ≡ get_or bs i a → (rows new : List Atomic) →
        new ≡ append_all most rows (flat_map (λ phi. atomics (substituted m a.var a.form phi)) fresh) →
        append_all most new (substitutions m (drop (i + 1) bs) fresh) ≡ append_all most rows (substitutions m (drop i bs) fresh)
    substitutions_go_on bs fresh i a lt e rows new f = appended_more (λ b. flat_map (λ phi. atomics (substituted m b.var b.form phi)) fresh) bs i a lt e rows new f

    -- one step of a loop of rounds
    pub rounds_go_on : (count i done : ℕ) (first rows fresh new : List Atomic) → i < count → fresh ≡ drop done rows → AllRefused rows (substitutions m assigned (take done rows)) →
        new ≡ append_all most rows (substitutions m assigned fresh) → rounds (count - i) m most assigned rows ≡ rounds count m most assigned first →
        (length rows ≤ length new) × AllRefused new (substitutions m assigned (take (length rows) new)) × (rounds (count - (i + 1)) m most assigned new ≡ rounds count m most assigned first)
    rounds_go_on count i done first rows fresh new lt f h e goes =
        let next : new ≡ round m most assigned rows = e ∙ ap (λ t. append_all most rows (substitutions m assigned t)) f ∙ sym (round-rest rows done h) in
        let grown = append_all-extends rows (substitutions m assigned fresh) in
        let turns : count - i ≡ suc (count - (i + 1)) = omega arith in
        (omega (arith, ap length (e ∙ grown.1), length-append rows grown.0), round_refused rows new next, rw (next) (rw (turns) at goes))

    pub rounds_end : (count i done : ℕ) (first rows : List Atomic) → (length rows ≤ done) ⊎ (most ≤ length rows) → AllRefused rows (substitutions m assigned (take done rows)) →
        rounds (count - i) m most assigned rows ≡ rounds count m most assigned first → rows ≡ rounds count m most assigned first
    rounds_end count i done first rows (inl le) h goes = sym (rounds-gone_over (count - i) rows done le h) ∙ goes
    rounds_end count i done first rows (inr le) h goes = sym (rounds-full (count - i) rows le) ∙ goes

-- a table within its limit stays within it
module _ (most : ℕ) where
  one_more : (table : List Atomic) (x : Atomic) (b : Bool) → is_appended most table x ≡ b → length table ≤ most → length (cond b (table ++ x ∷ []) table) ≤ most
  one_more table x true e le =
      let p = and_parts (not (list_any (is_same_comparison x) table)) _ e in
      let q = and_parts (nat_le (atomic_nodes x) MAX_APPENDED_NODES) (nat_lt (length table) most) p.1 in
      omega (arith, length-append table (x ∷ []), ltb-true (length table) most q.1)
  one_more table x false e le = le

  append_all_length : (table xs : List Atomic) → length table ≤ most → length (append_all most table xs) ≤ most
  append_all_length table [] h = h
  append_all_length table (x ∷ xs) h = append_all_length (cond (is_appended most table x) (table ++ x ∷ []) table) xs (one_more table x (is_appended most table x) refl h)

  pub rounds_length : (m : ℕ) (assigned : List Assignment) (n : ℕ) (table : List Atomic) → length table ≤ most → length (rounds n m most assigned table) ≤ most
  rounds_length m assigned zero table h = h
  rounds_length m assigned (suc n) table h = rounds_length m assigned n (round m most assigned table) (append_all_length table (substitutions m assigned table) h)

-- rounds without assignments and comparisons append nothing
pub no_rounds : (n m most : ℕ) → rounds n m most [] [] ≡ []
no_rounds zero m most = refl
no_rounds (suc n) m most = no_rounds n m most
