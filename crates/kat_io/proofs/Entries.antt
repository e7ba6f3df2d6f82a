-- Contents by name, and the entries of the map that holds them.
use Rattle.std.proofs.Common.{◌≡◌, ℕ, List, [], ◌∷◌, map as mapped, Option, Some, Bool, true, false, cond, refl, sym, ap, ◌∙◌, Vec, String, string_bytes}
use Rattle.std.specs.Option.{option_map}
use Rattle.std.specs.Ordering.{nat_cmp, eq_by_cmp}
use Rattle.std.specs.Cmp.{eq_by_cmp_equiv}
use Rattle.std.specs.Cmp.Lexicographic.{slice_cmp, nat_list_cmp_total}
use Rattle.std.specs.FinMap.{get, insert, find, get-from_entries, get-insert, same_map, nat_cmp-IsAntisymmetric, slice_cmp-IsAntisymmetric}
use Rattle.std.specs.Map.{lookup}
use Rattle.std.specs.BTreeMap.{BTreeMap, is_at, get_by_text, UpdatesBy}
use Rattle.std.specs.String.{string_cmp}
use Rattle.std.specs.Str.{bytes_eq}
use Rattle.std.specs.declared.alloc.Global.{Global}
use Rattle.std.proofs.lemmas.Map.Text.{btree_map_updates_text, is_eq-slice_cmp}
use Rattle.kat_io.specs.Shelves.{contents_of}

option_map-cond : {A B : Type 0} (f : A → B) (b : Bool) (x : A) (o : Option A) → cond b (Some (f x)) (option_map f o) ≡ option_map f (cond b (Some x) o)
option_map-cond f true x o = refl
option_map-cond f false x o = refl

-- a name is found in the contents exactly when its text is found in the entries
find-contents : (es : List (String Global × Vec ℕ Global)) (q : List ℕ) → find (slice_cmp nat_cmp) q (mapped (λ e. (string_bytes e.0, e.1.items)) es) ≡ option_map (λ v. v.items) (lookup (is_at (λ k. slice_cmp nat_cmp q (string_bytes k))) es)
find-contents [] q = refl
find-contents (e ∷ es) q =
    ap (cond (eq_by_cmp (slice_cmp nat_cmp) q (string_bytes e.0)) (Some e.1.items)) (find-contents es q)
    ∙ option_map-cond (λ v. v.items) (eq_by_cmp (slice_cmp nat_cmp) q (string_bytes e.0)) e.1 _

pub get-contents_of : (m : BTreeMap (String Global) (Vec ℕ Global)) (q : List ℕ) → get (contents_of m.entries) q ≡ option_map (λ v. v.items) (get_by_text m q)
get-contents_of m q = get-from_entries nat_list_cmp_total _ q ∙ find-contents m.entries q

-- if one text is set in a map, its contents have the content of that name set
pub contents_of-insert : (m n : BTreeMap (String Global) (Vec ℕ Global)) (name : List ℕ) (bytes : Vec ℕ Global) → UpdatesBy string_cmp (λ k. slice_cmp nat_cmp name (string_bytes k)) m n (Some bytes) → contents_of n.entries ≡ insert (contents_of m.entries) name bytes.items
contents_of-insert m n name bytes updates =
    same_map nat_list_cmp_total (slice_cmp-IsAntisymmetric nat_cmp-IsAntisymmetric) _ _ (λ q.
    let same : bytes_eq name q ≡ eq_by_cmp (slice_cmp nat_cmp) q name = sym (is_eq-slice_cmp name q) ∙ (eq_by_cmp_equiv nat_list_cmp_total).symm name q in
    get-contents_of n q
    ∙ ap (option_map (λ (v : Vec ℕ Global). v.items)) (btree_map_updates_text name m n (Some bytes) updates q)
    ∙ sym (option_map-cond (λ (v : Vec ℕ Global). v.items) (bytes_eq name q) bytes (get_by_text m q))
    ∙ ap (cond (bytes_eq name q) (Some bytes.items)) (sym (get-contents_of m q))
    ∙ ap (λ b. cond b (Some bytes.items) (get (contents_of m.entries) q)) same
    ∙ sym (get-insert nat_list_cmp_total (contents_of m.entries) name bytes.items q))

-- the same, if `name` and `content` are the bytes of the key and of the vector
pub contents_of-set : (m n : BTreeMap (String Global) (Vec ℕ Global)) (key : String Global) (bytes : Vec ℕ Global) (name content : List ℕ) → string_bytes key ≡ name → bytes.items ≡ content → UpdatesBy string_cmp (string_cmp key) m n (Some bytes) → contents_of n.entries ≡ insert (contents_of m.entries) name content
contents_of-set m n key bytes name content named held updates = rw (← named, ← held) (contents_of-insert m n (string_bytes key) bytes updates)
