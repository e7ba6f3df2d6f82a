-- The checks of an item: the result of each check that passes, and what it implies.
use Rattle.std.proofs.Common.{◌≡◌, ℕ, ◌+◌, ◌≤◌, ◌<◌, List, [], ◌∷◌, length, Bool, true, false, nat_lt, cond as if_true, Option, Some, None, is_some, Ok, Err, refl, sym, nat_le}
use Rattle.std.proofs.lemmas.Bool.{ltb-true, ltb-false, lt-ltb, le-ltb, lt-leb, leb-false}
use Rattle.kat_model.specs.declared.limits.TheConstants.{MAX_TESTS, MAX_ACTIONS, MAX_VARS, MAX_ROUNDS, MAX_TERM_NODES, MAX_TEXT_NODES, MAX_HYPS}
use Rattle.text_parser.specs.declared.fault.TextFault.{TextFault}
use Rattle.text_parser.specs.declared.fault.TextFault.TheVariants.{DoubleName, TooMany, TooLarge, Sort, NumberTooWide}
use Rattle.kat_model.specs.Stores.{modulus}
use Rattle.kat_model.specs.declared.expression.Width.{Width}
use Rattle.text_parser.specs.declared.terminal.Terminal.TheVariants.{Number, WideNumber}
use Rattle.text_parser.specs.Lexemes.{Lexeme, lexeme}
use Rattle.text_parser.specs.Parsed.{◌>>=◌}
use Rattle.text_parser.specs.Phrases.{Leaf}
use Rattle.text_parser.proofs.ParserSoundness.{bind_ok}
use Rattle.text_parser.specs.declared.extent.Extent.{Extent}
use Rattle.text_parser.specs.ScopeParts.{meaning, IsUndeclared}
use Rattle.problem_file.specs.declared.item_reading.Setting.TheVariants as setting
use Rattle.problem_file.specs.Files.{State, most_goals, goal_fault, declare_test, declare_action, declare_var, check_new, has_begun, begin_rounds, begin_width, set_rounds, with_rounds, with_width, width_with, take_width, set_width, grow, check_size}
use Rattle.problem_file.specs.Numbers.{IsNarrow, AreNarrow, check_number, check_numbers}
use Rattle.problem_file.specs.Phrases.{Numeral}
use Rattle.problem_file.specs.Folds.{numeral_leaf, numeral_value, fold_setting}
use Rattle.problem_file.specs.ItemActions.{SidesMeasurement, TripleMeasurement}
use Rattle.problem_file.specs.Making.{making, begin_hyp, begin_goal, count, count_sides, count_parts, triple_nodes}
use Rattle.problem_file.specs.Sound.{with_test, with_action, with_var, grown, DeclaresTest, DeclaresAction, DeclaresVar, HasRoom, SetsRounds, SetsWidth}
use Rattle.problem_file.proofs.Results.{same_ok, passed}

none_of : {A : Type 0} (o : Option A) → is_some o ≡ false → o ≡ None
none_of None e = refl
none_of (Some x) e = absurd cc

-- ---- names

pub new_there : (s : State) (at : ℕ) (name : List ℕ) → IsUndeclared s.world name → check_new s at name ≡ Ok tt
new_there s at name new = rw new refl

pub new_passed : (s : State) (at : ℕ) (name : List ℕ) (u : Unit {0}) → check_new s at name ≡ Ok u → IsUndeclared s.world name
new_passed s at name u e = none_of (meaning s.world name) (passed (is_some (meaning s.world name)) (DoubleName at) tt u e).0

pub test_there : (s : State) (l : Leaf) (t : State) → DeclaresTest s l t → declare_test s l.at l.text ≡ Ok t
test_there s l t (new, few, made) = rw (new, lt-leb MAX_TESTS s.tests few, made) refl

pub action_there : (s : State) (l : Leaf) (t : State) → DeclaresAction s l t → declare_action s l.at l.text ≡ Ok t
action_there s l t (new, few, made) = rw (new, lt-leb MAX_ACTIONS s.actions few, made) refl

pub var_there : (s : State) (l : Leaf) (t : State) → DeclaresVar s l t → declare_var s l.at l.text ≡ Ok t
var_there s l t (new, few, made) = rw (new, lt-leb MAX_VARS s.vars few, made) refl

-- two checks that passed
both_passed : {A : Type 0} (a b : Bool) (x y : TextFault) (v w : A) → if_true a (Err x) (if_true b (Err y) (Ok v)) ≡ Ok w → (a ≡ false) × (b ≡ false) × (w ≡ v)
both_passed true b x y v w e = absurd cc
both_passed false true x y v w e = absurd cc
both_passed false false x y v w e = (refl, refl, cc)

pub test_declared : (s : State) (l : Leaf) (t : State) → declare_test s l.at l.text ≡ Ok t → DeclaresTest s l t
test_declared s l t e =
    let h = both_passed (is_some (meaning s.world l.text)) (nat_le MAX_TESTS s.tests) (DoubleName l.at) (TooMany l.at) (with_test s l.text) t e in
    (none_of (meaning s.world l.text) h.0, leb-false MAX_TESTS s.tests h.1, h.2)

pub action_declared : (s : State) (l : Leaf) (t : State) → declare_action s l.at l.text ≡ Ok t → DeclaresAction s l t
action_declared s l t e =
    let h = both_passed (is_some (meaning s.world l.text)) (nat_le MAX_ACTIONS s.actions) (DoubleName l.at) (TooMany l.at) (with_action s l.text) t e in
    (none_of (meaning s.world l.text) h.0, leb-false MAX_ACTIONS s.actions h.1, h.2)

pub var_declared : (s : State) (l : Leaf) (t : State) → declare_var s l.at l.text ≡ Ok t → DeclaresVar s l t
var_declared s l t e =
    let h = both_passed (is_some (meaning s.world l.text)) (nat_le MAX_VARS s.vars) (DoubleName l.at) (TooMany l.at) (with_var s l.text) t e in
    (none_of (meaning s.world l.text) h.0, leb-false MAX_VARS s.vars h.1, h.2)

-- ---- the beginning of an item

pub hyp_there : (s : State) (at : ℕ) → length s.hyps < MAX_HYPS → begin_hyp s at ≡ Ok tt
hyp_there s at few = rw (lt-leb MAX_HYPS (length s.hyps) few) refl

pub hyp_passed : (s : State) (at : ℕ) (u : Unit {0}) → begin_hyp s at ≡ Ok u → length s.hyps < MAX_HYPS
hyp_passed s at u e = leb-false MAX_HYPS (length s.hyps) (passed (nat_le MAX_HYPS (length s.hyps)) (TooMany at) tt u e).0

pub goal_there : (s : State) (at : ℕ) → length s.goals < most_goals s.limit → begin_goal s at ≡ Ok tt
goal_there s at few = rw (lt-ltb (length s.goals) (most_goals s.limit) few) refl

pub goal_passed : (s : State) (at : ℕ) (u : Unit {0}) → begin_goal s at ≡ Ok u → length s.goals < most_goals s.limit
goal_passed s at u e = by_count (nat_lt (length s.goals) (most_goals s.limit)) refl e where
  by_count : (b : Bool) → nat_lt (length s.goals) (most_goals s.limit) ≡ b → if_true b (Ok tt) (Err (goal_fault s.limit at)) ≡ Ok u → length s.goals < most_goals s.limit
  by_count true h k = ltb-true (length s.goals) (most_goals s.limit) h
  by_count false h k = absurd cc

-- ---- rounds and width

pub rounds_there : (s : State) (at : ℕ) (x : Numeral) (t : State) → SetsRounds s x t → fold_setting making setting.Rounds s at x ≡ Ok t
rounds_there s at x t h = rw (h.first, h.is_number, le-ltb MAX_ROUNDS h.number h.few, h.made) refl

pub rounds_set : (s : State) (at : ℕ) (x : Numeral) (t : State) → fold_setting making setting.Rounds s at x ≡ Ok t → SetsRounds s x t
rounds_set s at x t e =
    let a = bind_ok (begin_rounds s at) (λ u. numeral_value x >>= λ n. set_rounds s (numeral_leaf x).at n) t e in
    let b = bind_ok (numeral_value x) (λ n. set_rounds s (numeral_leaf x).at n) t a.2 in
    let c = passed (nat_lt MAX_ROUNDS b.0) (TooMany (numeral_leaf x).at) (with_rounds s b.0) t b.2 in
    record {
      first = none_of s.rounds (passed (is_some s.rounds) (DoubleName at) tt a.0 a.1).0;
      number = b.0;
      is_number = b.1;
      few = ltb-false MAX_ROUNDS b.0 c.0;
      made = sym c.1;
    }

pub width_there : (s : State) (at : ℕ) (x : Numeral) (t : State) → SetsWidth s x t → fold_setting making setting.Width s at x ≡ Ok t
width_there s at x t h = rw (h.first, h.early, h.is_number, h.is_width, h.made) refl

width_taken : (s : State) (at : ℕ) (w : Option Width) (t : State) → take_width s at w ≡ Ok t → (v : Width) × (w ≡ Some v) × (t ≡ with_width s v)
width_taken s at None t e = absurd cc
width_taken s at (Some v) t e = (v, refl, sym (same_ok (with_width s v) t e))

-- both checks of a `width` passed
width_begun : (s : State) (at : ℕ) (u : Unit {0}) → begin_width s at ≡ Ok u → (s.width ≡ None) × (has_begun s ≡ false)
width_begun s at u e =
    let h = both_passed (is_some s.width) (has_begun s) (DoubleName at) (Sort at) tt u e in
    (none_of s.width h.0, h.1)

pub width_set : (s : State) (at : ℕ) (x : Numeral) (t : State) → fold_setting making setting.Width s at x ≡ Ok t → SetsWidth s x t
width_set s at x t e =
    let a = bind_ok (begin_width s at) (λ u. numeral_value x >>= λ n. set_width s (numeral_leaf x).at n) t e in
    let b = bind_ok (numeral_value x) (λ n. set_width s (numeral_leaf x).at n) t a.2 in
    let begun = width_begun s at a.0 a.1 in
    let c = width_taken s (numeral_leaf x).at (width_with b.0) t b.2 in
    record { first = begun.0; early = begun.1; number = b.0; is_number = b.1; chosen = c.0; is_width = c.1; made = c.2 }

-- ---- numbers

number_there : (w : Width) (t : Lexeme) → IsNarrow w t → check_number w t ≡ Ok tt
number_there w (lexeme (Number n) at text) h = rw (lt-ltb n (modulus w) h) refl
number_there w (lexeme WideNumber at text) h = absurd h
number_there w (lexeme _ at text) h = refl

number_passed : (w : Width) (t : Lexeme) (u : Unit {0}) → check_number w t ≡ Ok u → IsNarrow w t
number_passed w (lexeme (Number n) at text) u e = by_size (nat_lt n (modulus w)) refl e where
  by_size : (b : Bool) → nat_lt n (modulus w) ≡ b → if_true b (Ok tt) (Err (NumberTooWide at)) ≡ Ok u → n < modulus w
  by_size true h k = ltb-true n (modulus w) h
  by_size false h k = absurd cc
number_passed w (lexeme WideNumber at text) u e = absurd cc
number_passed w (lexeme _ at text) u e = tt

pub numbers_there : (w : Width) (ts : List Lexeme) → AreNarrow w ts → check_numbers w ts ≡ Ok tt
numbers_there w [] h = refl
numbers_there w (t ∷ ts) h = rw (number_there w t h.0) (numbers_there w ts h.1)

pub numbers_passed : (w : Width) (ts : List Lexeme) (u : Unit {0}) → check_numbers w ts ≡ Ok u → AreNarrow w ts
numbers_passed w [] u e = tt
numbers_passed w (t ∷ ts) u e =
    let a = bind_ok (check_number w t) (λ v. check_numbers w ts) u e in
    (number_passed w t a.0 a.1, numbers_passed w ts u a.2)

-- ---- nodes

size_there : (at nodes : ℕ) → nodes ≤ MAX_TERM_NODES → check_size at nodes ≡ Ok tt
size_there at nodes few = rw (le-ltb MAX_TERM_NODES nodes few) refl

size_passed : (at nodes : ℕ) (u : Unit {0}) → check_size at nodes ≡ Ok u → nodes ≤ MAX_TERM_NODES
size_passed at nodes u e = ltb-false MAX_TERM_NODES nodes (passed (nat_lt MAX_TERM_NODES nodes) (TooLarge at) tt u e).0

room_there : (s : State) (at nodes : ℕ) → HasRoom s nodes → grow s at nodes ≡ Ok (grown s nodes)
room_there s at nodes room = rw (le-ltb MAX_TEXT_NODES (s.size + nodes) room) refl

room_passed : (s t : State) (at nodes : ℕ) → grow s at nodes ≡ Ok t → HasRoom s nodes × (grown s nodes ≡ t)
room_passed s t at nodes e = let h = passed (nat_lt MAX_TEXT_NODES (s.size + nodes)) (TooLarge at) (grown s nodes) t e in (ltb-false MAX_TEXT_NODES (s.size + nodes) h.0, h.1)

pub count_there : (s : State) (at nodes : ℕ) → nodes ≤ MAX_TERM_NODES → HasRoom s nodes → count s at nodes ≡ Ok (grown s nodes)
count_there s at nodes few room = rw (size_there at nodes few) (room_there s at nodes room)

pub count_passed : (s t : State) (at nodes : ℕ) → count s at nodes ≡ Ok t → (nodes ≤ MAX_TERM_NODES) × HasRoom s nodes × (grown s nodes ≡ t)
count_passed s t at nodes e =
    let a = bind_ok (check_size at nodes) (λ u. grow s at nodes) t e in
    let b = room_passed s t at nodes a.2 in
    (size_passed at nodes a.0 a.1, b.0, b.1)

pub sides_there : (s : State) (at : ℕ) (m : SidesMeasurement Extent) → ((m.left).measure).nodes ≤ MAX_TERM_NODES → ((m.right).measure).nodes ≤ MAX_TERM_NODES → HasRoom s (((m.left).measure).nodes + ((m.right).measure).nodes)
    → count_sides s at m ≡ Ok (grown s (((m.left).measure).nodes + ((m.right).measure).nodes))
sides_there s at m left right room = rw (size_there at ((m.left).measure).nodes left, size_there at ((m.right).measure).nodes right) (room_there s at (((m.left).measure).nodes + ((m.right).measure).nodes) room)

pub sides_passed : (s t : State) (at : ℕ) (m : SidesMeasurement Extent) → count_sides s at m ≡ Ok t
    → (((m.left).measure).nodes ≤ MAX_TERM_NODES) × (((m.right).measure).nodes ≤ MAX_TERM_NODES) × HasRoom s (((m.left).measure).nodes + ((m.right).measure).nodes) × (grown s (((m.left).measure).nodes + ((m.right).measure).nodes) ≡ t)
sides_passed s t at m e =
    let a = bind_ok (check_size at ((m.left).measure).nodes) _ t e in
    let b = bind_ok (check_size at ((m.right).measure).nodes) _ t a.2 in
    let c = room_passed s t at (((m.left).measure).nodes + ((m.right).measure).nodes) b.2 in
    (size_passed at ((m.left).measure).nodes a.0 a.1, size_passed at ((m.right).measure).nodes b.0 b.1, c.0, c.1)

pub parts_there : (s : State) (at : ℕ) (m : TripleMeasurement Extent) → ((m.pre).measure).nodes ≤ MAX_TERM_NODES → ((m.body).measure).nodes ≤ MAX_TERM_NODES → ((m.post).measure).nodes ≤ MAX_TERM_NODES → HasRoom s (triple_nodes m)
    → count_parts s at m ≡ Ok (grown s (triple_nodes m))
parts_there s at m pre body post room = rw (size_there at ((m.pre).measure).nodes pre, size_there at ((m.body).measure).nodes body, size_there at ((m.post).measure).nodes post) (room_there s at (triple_nodes m) room)

pub parts_passed : (s t : State) (at : ℕ) (m : TripleMeasurement Extent) → count_parts s at m ≡ Ok t
    → (((m.pre).measure).nodes ≤ MAX_TERM_NODES) × (((m.body).measure).nodes ≤ MAX_TERM_NODES) × (((m.post).measure).nodes ≤ MAX_TERM_NODES) × HasRoom s (triple_nodes m) × (grown s (triple_nodes m) ≡ t)
parts_passed s t at m e =
    let a = bind_ok (check_size at ((m.pre).measure).nodes) _ t e in
    let b = bind_ok (check_size at ((m.body).measure).nodes) _ t a.2 in
    let c = bind_ok (check_size at ((m.post).measure).nodes) _ t b.2 in
    let d = room_passed s t at (triple_nodes m) c.2 in
    (size_passed at ((m.pre).measure).nodes a.0 a.1, size_passed at ((m.body).measure).nodes b.0 b.1, size_passed at ((m.post).measure).nodes c.0 c.1, d.0, d.1)
