-- Meanings by name, and the entries of the map that stores them.
use Rattle.std.proofs.Common.{◌≡◌, ℕ, List, [], ◌∷◌, map as mapped, Some, cond, refl, sym, ap, ◌∙◌, String, string_bytes}
use Rattle.std.specs.Ordering.{nat_cmp, eq_by_cmp}
use Rattle.std.specs.Cmp.{eq_by_cmp_equiv}
use Rattle.std.specs.Cmp.Lexicographic.{slice_cmp, nat_list_cmp_total}
use Rattle.std.specs.FinMap.{get, insert, find, get-from_entries, get-insert, same_map, nat_cmp-IsAntisymmetric, slice_cmp-IsAntisymmetric}
use Rattle.std.specs.Map.{lookup}
use Rattle.std.specs.BTreeMap.{BTreeMap, is_at, get_by_text, UpdatesBy}
use Rattle.std.specs.String.{string_cmp}
use Rattle.std.specs.Str.{bytes_eq}
use Rattle.std.specs.declared.alloc.Global.{Global}
use Rattle.std.proofs.lemmas.Map.Text.{btree_map_updates_text, is_eq-slice_cmp}
use Rattle.text_parser.specs.declared.meaning.Meaning.{Meaning}
use Rattle.text_parser.specs.ScopeParts.{Meanings, meanings_of}

-- looking up a text among the entries agrees with looking up its bytes
find-entries : (es : List (String Global × Meaning)) (q : List ℕ) → find (slice_cmp nat_cmp) q (mapped (λ e. (string_bytes e.0, e.1)) es) ≡ lookup (is_at (λ k. slice_cmp nat_cmp q (string_bytes k))) es
find-entries [] q = refl
find-entries (e ∷ es) q = ap (cond (eq_by_cmp (slice_cmp nat_cmp) q (string_bytes e.0)) (Some e.1)) (find-entries es q)

pub get-meanings_of : (m : BTreeMap (String Global) Meaning) (q : List ℕ) → get (meanings_of m.entries) q ≡ get_by_text m q
get-meanings_of m q = get-from_entries nat_list_cmp_total _ q ∙ find-entries m.entries q

-- two names compare as equal exactly when their bytes are equal
pub ties-bytes_eq : (q name : List ℕ) → eq_by_cmp (slice_cmp nat_cmp) q name ≡ bytes_eq name q
ties-bytes_eq q name = (eq_by_cmp_equiv nat_list_cmp_total).symm q name ∙ is_eq-slice_cmp name q

-- an insertion changes the meaning of its own name only
pub get-insert_name : (m : Meanings) (name : List ℕ) (v : Meaning) (q : List ℕ) → get (insert m name v) q ≡ cond (bytes_eq name q) (Some v) (get m q)
get-insert_name m name v q = get-insert nat_list_cmp_total m name v q ∙ ap (λ b. cond b (Some v) (get m q)) (ties-bytes_eq q name)

-- setting one text of the map inserts its name into the meanings
pub meanings_of-insert : (m n : BTreeMap (String Global) Meaning) (key : String Global) (v : Meaning) (name : List ℕ) → string_bytes key ≡ name → UpdatesBy string_cmp (string_cmp key) m n (Some v) → meanings_of n.entries ≡ insert (meanings_of m.entries) name v
meanings_of-insert m n key v name named updates =
    rw (← named)
    (same_map nat_list_cmp_total (slice_cmp-IsAntisymmetric nat_cmp-IsAntisymmetric) _ _ (λ q.
    get-meanings_of n q
    ∙ btree_map_updates_text (string_bytes key) m n (Some v) updates q
    ∙ ap (cond (bytes_eq (string_bytes key) q) (Some v)) (sym (get-meanings_of m q))
    ∙ sym (get-insert_name (meanings_of m.entries) (string_bytes key) v q)))
