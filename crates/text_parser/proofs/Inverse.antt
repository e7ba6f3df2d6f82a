-- Two maps that are inverse to each other remain so when each gets an additional entry.
use Rattle.std.proofs.Common.{◌≡◌, ℕ, List, [], Option, Some, None, Bool, true, false, cond, refl, sym, ap, ◌∙◌, subst, String, string_bytes, ◌⊎◌, inl, inr, ⊎_elim}
use Rattle.std.specs.Option.{option_map}
use Rattle.std.specs.Ordering.{nat_cmp, eq_by_cmp}
use Rattle.std.specs.Cmp.Lexicographic.{slice_cmp}
use Rattle.std.specs.FinMap.{get, insert, get-empty}
use Rattle.std.specs.Map.{lookup}
use Rattle.std.specs.BTreeMap.{BTreeMap, Updates, is_at}
use Rattle.std.specs.Str.{bytes_eq}
use Rattle.std.specs.declared.alloc.Global.{Global}
use Rattle.std.proofs.lemmas.Bool.{cases_Bool}
use Rattle.std.proofs.lemmas.Option.{none-some}
use Rattle.std.proofs.lemmas.Slice.Eq.{bytes_eq-Decides}
use Rattle.text_parser.specs.declared.meaning.Meaning.{Meaning}
use Rattle.text_parser.specs.contracts.meaning.MeaningOrd.TheImpl.{ghosts}
use Rattle.text_parser.specs.ScopeParts.{Meanings, meanings_of}
use Rattle.text_parser.specs.Working.Names.{text_of, AreInverse}
use Rattle.text_parser.proofs.MeaningOrder.{same_meaning}
use Rattle.text_parser.proofs.MeaningEntries.{get-insert_name}

-- `new` maps `k` to `v` and agrees with `old` on every other key
pub record Extends {K V : Type 0} (old new : K → Option V) (k : K) (v : V) : Type 0 where
  pub here : new k ≡ Some v
  pub others : (q : K) → (q ≡ k) ⊎ (new q ≡ old q)

there_more : {K V : Type 0} (f f' : K → Option V) (g g' : V → Option K) (k : K) (v : V) → ((q : K) (x : V) → f q ≡ Some x → g x ≡ Some q) → g v ≡ None → Extends f f' k v → Extends g g' v k → (q : K) (x : V) → f' q ≡ Some x → g' x ≡ Some q
there_more f f' g g' k v there none more back q x e =
    let here = more.here in
    let here_back = back.here in
    ⊎_elim
    (λ p. cc)
    (λ kept. let old : g x ≡ Some q = there q x (sym kept ∙ e) in ⊎_elim (λ p. cc) (λ kept_back. kept_back ∙ old) (back.others x))
    (more.others q)

-- the maps remain inverse if one gets `k` to `v` and the other `v` to `k`
pub inverse_more : {K V : Type 0} (f f' : K → Option V) (g g' : V → Option K) (k : K) (v : V) → AreInverse f g → f k ≡ None → g v ≡ None → Extends f f' k v → Extends g g' v k → AreInverse f' g'
inverse_more f f' g g' k v inverse new_key new_value more back = record {
  there = there_more f f' g g' k v inverse.there new_value more back;
  back = there_more g g' f f' v k inverse.back new_key back more;
}

pub inverse_same : {K V : Type 0} (f : K → Option V) (g g' : V → Option K) → AreInverse f g → ((v : V) → g' v ≡ g v) → AreInverse f g'
inverse_same f g g' inverse same = record {
  there = λ k v e. same v ∙ inverse.there k v e;
  back = λ v k e. inverse.back v k (sym (same v) ∙ e);
}

none_from : {A : Type 0} (o : Option A) → ((x : A) → o ≡ Some x → ⊥) → o ≡ None
none_from None h = refl
none_from (Some x) h = absurd (h x refl)

-- a value that `f` gives for no key has no key in `g`
pub inverse_none : {K V : Type 0} (f : K → Option V) (g : V → Option K) (v : V) → AreInverse f g → ((k : K) → f k ≡ Some v → ⊥) → g v ≡ None
inverse_none f g v inverse none = none_from (g v) (λ k e. none k (inverse.back v k e))

-- ---- meanings by name, and texts by meaning

none_somewhere : {A : Type 0} (o : Option A) (x : A) → o ≡ None → o ≡ Some x → ⊥
none_somewhere o x e h = none-some x (sym e ∙ h)

pub inverse_empty : (m : BTreeMap (String Global) Meaning) (texts : BTreeMap Meaning (String Global)) → m.entries ≡ [] → texts.entries ≡ [] → AreInverse (get (meanings_of m.entries)) (text_of texts)
inverse_empty m texts e h = record {
  there = λ name v s. absurd (none_somewhere _ v (ap (λ es. get (meanings_of es) name) e ∙ get-empty (slice_cmp nat_cmp) name) s);
  back = λ v name s. absurd (none_somewhere _ name (ap (λ es. option_map string_bytes (lookup (is_at (ghosts.cmp v)) es)) h) s);
}

other_or_same : {K V : Type 0} (f : K → Option V) (q k : K) (v : V) (b : Bool) → (b ≡ true → q ≡ k) → (q ≡ k) ⊎ (cond b (Some v) (f q) ≡ f q)
other_or_same f q k v true same = inl (same refl)
other_or_same f q k v false same = inr refl

pub insert_extends : (m : Meanings) (name : List ℕ) (v : Meaning) → Extends (get m) (get (insert m name v)) name v
insert_extends m name v = record {
  here = get-insert_name m name v name ∙ ap (λ b. cond b (Some v) (get m name)) ((bytes_eq-Decides name name).1 refl);
  others = λ q. rw (get-insert_name m name v q) (other_or_same (get m) q name v (bytes_eq name q) (λ e. sym ((bytes_eq-Decides name q).0 e)));
}

pub text_of-unchanged : (old new : BTreeMap Meaning (String Global)) → new.entries ≡ old.entries → (q : Meaning) → text_of new q ≡ text_of old q
text_of-unchanged old new e q = ap (λ es. option_map string_bytes (lookup (is_at (ghosts.cmp q)) es)) e

pub text_extends : (old new : BTreeMap Meaning (String Global)) (v : Meaning) (text : String Global) (name : List ℕ) → string_bytes text ≡ name → Updates ghosts.cmp old new v (Some text) → Extends (text_of old) (text_of new) v name
text_extends old new v text name named updates = record {
  here = ap (option_map string_bytes) updates.1 ∙ ap Some named;
  others = λ q. ⊎_elim (λ e. inl (sym (same_meaning v q e))) (λ e. inr (ap (option_map string_bytes) (updates.2 q e))) (cases_Bool (eq_by_cmp ghosts.cmp v q));
}

-- setting a text where none was and removing it again restores the map
pub text_of-removed : (old set new : BTreeMap Meaning (String Global)) (v : Meaning) (text : String Global) → text_of old v ≡ None → Updates ghosts.cmp old set v (Some text) → Updates ghosts.cmp set new v None → (q : Meaning) → text_of new q ≡ text_of old q
text_of-removed old set new v text none cons_token taken q =
    ⊎_elim
    (λ e. subst (λ r. text_of new r ≡ text_of old r) (same_meaning v q e) (ap (option_map string_bytes) taken.1 ∙ sym none))
    (λ e. ap (option_map string_bytes) (taken.2 q e ∙ cons_token.2 q e))
    (cases_Bool (eq_by_cmp ghosts.cmp v q))
