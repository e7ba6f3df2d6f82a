-- In the table of a string a term relates two positions exactly when it accepts the part between them.
use Rattle.std.proofs.Common.{◌≡◌, ℕ, ◌+◌, ◌-◌, ◌≤◌, ◌↔◌, List, ◌++◌, take, drop, length, sym, ap, ◌∙◌, subst, arith, append_assoc}
use Rattle.std.specs.Bool.{IsTrue}
use Rattle.std.proofs.lemmas.List.{take-append-drop, length-take, length-drop, take_at, take_all}
use Rattle.kat_model.specs.Trees.{Term}
use Rattle.kat_model.specs.Relations.{Relates, frame_of}
use Rattle.kat_model.specs.Strings.{Move, GuardedString, accepts, IsPath, spelled}
use Rattle.kat_model.specs.Laws.{IsWithin}
use Rattle.kat_model.proofs.Paths.{relates_spelled, spelled_relates}
use Rattle.string_tables.specs.Tables.{table_of, RelatesEnds}
use Rattle.string_tables.specs.Laws.{AcceptsPart}
use Rattle.string_tables.proofs.Positions.{atom_at_position, path_along, led_along}

-- the moves between two positions
abbrev pub part_between : GuardedString → ℕ → ℕ → List Move
part_between x i j = take (j - i) (drop i x.rest)

relates_part : (x : GuardedString) (e : Term) (i j : ℕ) → i ≤ length x.rest → j ≤ length x.rest → Relates (table_of x) e i j → AcceptsPart x e i j
relates_part x e i j li lj r =
    let frame = frame_of (table_of x) in
    let s = relates_spelled frame e i j (omega arith) (omega arith) r in
    let p = path_along x i s.0 j s.1 in
    let count : length (spelled frame s.0) ≡ j - i = omega (arith, p.end) in
    let part : part_between x i j ≡ spelled frame s.0 = ap (take (j - i)) p.whole ∙ take_at (spelled frame s.0) p.after (j - i) count in
    let atom = atom_at_position x.first x.rest i li in
    record { order = omega (arith, p.end); accepted = rw (part, ← atom) s.2 }

part_relates : (x : GuardedString) (e : Term) (i j : ℕ) → i ≤ length x.rest → j ≤ length x.rest → AcceptsPart x e i j → Relates (table_of x) e i j
part_relates x e i j li lj a =
    let frame = frame_of (table_of x) in
    let part = part_between x i j in
    let p = led_along x i part (drop (j - i) (drop i x.rest)) (sym (take-append-drop (j - i) (drop i x.rest))) in
    let end : i + length part ≡ j = omega (arith, length-take (j - i) (drop i x.rest), length-drop i x.rest, a.order) in
    let atom = atom_at_position x.first x.rest i li in
    spelled_relates frame e i j p.hops (omega arith) (subst (λ n. IsPath frame i p.hops n) end p.path) (rw (atom, p.spells) a.accepted)

pub relates_by_part : (x : GuardedString) (e : Term) (i j : ℕ) → i ≤ length x.rest → j ≤ length x.rest → Relates (table_of x) e i j ↔ AcceptsPart x e i j
relates_by_part x e i j li lj = (relates_part x e i j li lj, part_relates x e i j li lj)

-- a term relates the ends exactly when it accepts the string
pub ends_by_acceptance : (x : GuardedString) (e : Term) → RelatesEnds x e ↔ IsTrue (accepts e x.first x.rest)
ends_by_acceptance x e =
    let n = length x.rest in
    let whole = take_all n x.rest (omega arith) in
    let count : n - 0 ≡ n = omega arith in
    let part : part_between x 0 n ≡ x.rest = ap (λ d. take d x.rest) count ∙ whole in (
      (λ r. let a = relates_part x e 0 n (omega arith) (omega arith) r in rw part at a.accepted),
      (λ a. part_relates x e 0 n (omega arith) (omega arith) (record { order = omega arith; accepted = rw part a })),
    )

-- a term that relates two positions accepts a part of the string
pub relates_within : (x : GuardedString) (e : Term) (i j : ℕ) → i ≤ length x.rest → j ≤ length x.rest → Relates (table_of x) e i j → IsWithin e x.first x.rest
relates_within x e i j li lj r =
    let behind = drop i x.rest in
    let part = part_between x i j in
    let after = drop (j - i) behind in
    let whole = append_assoc (take i x.rest) part after ∙ ap (λ l. take i x.rest ++ l) (take-append-drop (j - i) behind) ∙ take-append-drop i x.rest in
    record { before = take i x.rest; part = part; after = after; whole = sym whole; taken = (relates_part x e i j li lj r).accepted }
