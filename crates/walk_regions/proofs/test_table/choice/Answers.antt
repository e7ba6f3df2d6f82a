use Rattle.std.proofs.Common.{◌&&◌, not, false, get_or}
use Rattle.std.proofs.lemmas.Result.{IfOk-weaker}
use Rattle.kat_model.specs.Steps.{Atom}
use Rattle.term_nodes.specs.NodeLists.{NodeParts}
use Rattle.term_nodes.specs.Growth.{Grows}
use Rattle.term_nodes.proofs.Growing.{Grows-trans}
use Rattle.walk_regions.proofs.StoredTests.{test_kept, chosen_high, chosen_low, chosen_both}
use Rattle.walk_regions.proofs.test_table.choice.Goals as goal

-- the store grows over three steps
grows_twice : (s t u v : NodeParts) → Grows s t → Grows t u → Grows u v → Grows s v
grows_twice s t u v first second third = Grows-trans s t v first (Grows-trans t u v second third)

pub returns-then-always_high-clause-test : goal.returns-then-always_high-clause-test
returns-then-always_high-clause-test c =
    let s = c.args.store.now in
    let t = c.primitive.new.store in
    let u = c.negation.new.store in
    let test = c.args.test in
    let both = Grows-trans s t u c.in_ok-is.ensures.grows c.in_ok-is_not.ensures.grows in
    IfOk-weaker c.either.result _ _
    (λ id own n f g lt on_low on_high.
    let is = test_kept t u n c.in_ok-is.is' (λ (atom : Atom). get_or atom test false) c.in_ok-is_not.ensures.grows (c.in_ok-is.ensures.test n lt) in
    let low = test_kept s u n c.args.low f both on_low in
    let high = test_kept s u n c.args.high g both on_high in
    chosen_high u c.either.new.store n test c.args.low c.args.high id f g low high (c.is_always-always_high.ensures c.if-always_high.true) (own n (λ (atom : Atom). get_or atom test false) f is low))
    c.either.ensures.test

pub returns-then-always_high-clause-grows : goal.returns-then-always_high-clause-grows
returns-then-always_high-clause-grows c = grows_twice _ _ _ _ c.in_ok-is.ensures.grows c.in_ok-is_not.ensures.grows c.either.ensures.grows

pub returns-then-always_low-clause-test : goal.returns-then-always_low-clause-test
returns-then-always_low-clause-test c =
    let s = c.args.store.now in
    let t = c.primitive.new.store in
    let u = c.negation.new.store in
    let test = c.args.test in
    let both = Grows-trans s t u c.in_ok-is.ensures.grows c.in_ok-is_not.ensures.grows in
    IfOk-weaker c.either-then-always_low.result _ _
    (λ id own n f g lt on_low on_high.
    let is_not = c.in_ok-is_not.ensures.test n (λ (atom : Atom). get_or atom test false) (c.in_ok-is.ensures.test n lt) in
    let low = test_kept s u n c.args.low f both on_low in
    let high = test_kept s u n c.args.high g both on_high in
    chosen_low u c.either-then-always_low.new.store n test c.args.low c.args.high id f g low high (c.is_always-always_low.ensures c.if-always_low.true) (own n (λ (atom : Atom). not (get_or atom test false)) g is_not high))
    c.either-then-always_low.ensures.test

pub returns-then-always_low-clause-grows : goal.returns-then-always_low-clause-grows
returns-then-always_low-clause-grows c = grows_twice _ _ _ _ c.in_ok-is.ensures.grows c.in_ok-is_not.ensures.grows c.either-then-always_low.ensures.grows

pub returns-in_err-on_high-clause-grows : goal.returns-in_err-on_high-clause-grows
returns-in_err-on_high-clause-grows c = grows_twice _ _ _ _ c.in_ok-is.ensures.grows c.in_ok-is_not.ensures.grows c.in_err-on_high.ensures.grows

pub returns-in_err-on_low-clause-grows : goal.returns-in_err-on_low-clause-grows
returns-in_err-on_low-clause-grows c = Grows-trans _ _ _ (grows_twice _ _ _ _ c.in_ok-is.ensures.grows c.in_ok-is_not.ensures.grows c.in_ok-on_high.ensures.grows) c.in_err-on_low.ensures.grows

pub returns-clause-test : goal.returns-clause-test
returns-clause-test c =
    let s = c.args.store.now in
    let t = c.primitive.new.store in
    let u = c.negation.new.store in
    let v = c.both.new.store in
    let w = c.both-2.new.store in
    let test = c.args.test in
    let both = Grows-trans s t u c.in_ok-is.ensures.grows c.in_ok-is_not.ensures.grows in
    let third = c.in_ok-on_high.ensures.grows in
    IfOk-weaker c.either-2.result _ _
    (λ id own n f g lt on_low on_high.
    let prim = c.in_ok-is.ensures.test n lt in
    let is = test_kept t u n c.in_ok-is.is' (λ (atom : Atom). get_or atom test false) c.in_ok-is_not.ensures.grows prim in
    let is_not = test_kept u v n c.in_ok-is_not.is_not (λ (atom : Atom). not (get_or atom test false)) third (c.in_ok-is_not.ensures.test n (λ (atom : Atom). get_or atom test false) prim) in
    let low = test_kept u v n c.args.low f third (test_kept s u n c.args.low f both on_low) in
    let high = test_kept s u n c.args.high g both on_high in
    let where_high = c.in_ok-on_high.ensures.test n (λ (atom : Atom). get_or atom test false) g is high in
    let where_low = c.in_ok-on_low.ensures.test n (λ (atom : Atom). not (get_or atom test false)) f is_not low in
    chosen_both c.either-2.new.store n test id f g
    (own n (λ (atom : Atom). get_or atom test false && g atom) (λ (atom : Atom). not (get_or atom test false) && f atom)
    (test_kept v w n c.in_ok-on_high.on_high (λ (atom : Atom). get_or atom test false && g atom) c.in_ok-on_low.ensures.grows where_high) where_low))
    c.either-2.ensures.test

pub returns-clause-grows : goal.returns-clause-grows
returns-clause-grows c =
    Grows-trans _ _ _ (grows_twice _ _ _ _ c.in_ok-is.ensures.grows c.in_ok-is_not.ensures.grows c.in_ok-on_high.ensures.grows)
    (Grows-trans _ _ _ c.in_ok-on_low.ensures.grows c.either-2.ensures.grows)

pub negation-requires : goal.negation-requires
negation-requires c = c.in_ok-is.ensures.is_id

pub returns-in_err-is_not-clause-grows : goal.returns-in_err-is_not-clause-grows
returns-in_err-is_not-clause-grows c = Grows-trans _ _ _ c.in_ok-is.ensures.grows c.in_err-is_not.ensures.grows

pub is_always-always_high-requires : goal.is_always-always_high-requires
is_always-always_high-requires c = c.in_ok-is_not.ensures.grows.test_numbers c.args.high (c.in_ok-is.ensures.grows.test_numbers c.args.high c.requires.high)

pub either-requires-clause-first : goal.either-requires-clause-first
either-requires-clause-first c = c.in_ok-is_not.ensures.grows.test_numbers c.in_ok-is.is' c.in_ok-is.ensures.is_id

pub either-requires-clause-second : goal.either-requires-clause-second
either-requires-clause-second c = c.in_ok-is_not.ensures.grows.test_numbers c.args.low (c.in_ok-is.ensures.grows.test_numbers c.args.low c.requires.low)

pub is_always-always_low-requires : goal.is_always-always_low-requires
is_always-always_low-requires c = c.in_ok-is_not.ensures.grows.test_numbers c.args.low (c.in_ok-is.ensures.grows.test_numbers c.args.low c.requires.low)

pub either-requires-then-always_low-clause-first : goal.either-requires-then-always_low-clause-first
either-requires-then-always_low-clause-first c = c.in_ok-is_not.ensures.is_id

pub either-requires-then-always_low-clause-second : goal.either-requires-then-always_low-clause-second
either-requires-then-always_low-clause-second c = c.in_ok-is_not.ensures.grows.test_numbers c.args.high (c.in_ok-is.ensures.grows.test_numbers c.args.high c.requires.high)

pub both-requires-clause-first : goal.both-requires-clause-first
both-requires-clause-first c = c.in_ok-is_not.ensures.grows.test_numbers c.in_ok-is.is' c.in_ok-is.ensures.is_id

pub both-requires-clause-second : goal.both-requires-clause-second
both-requires-clause-second c = c.in_ok-is_not.ensures.grows.test_numbers c.args.high (c.in_ok-is.ensures.grows.test_numbers c.args.high c.requires.high)

pub both-requires-2-clause-first : goal.both-requires-2-clause-first
both-requires-2-clause-first c = c.in_ok-on_high.ensures.grows.test_numbers c.in_ok-is_not.is_not c.in_ok-is_not.ensures.is_id

pub both-requires-2-clause-second : goal.both-requires-2-clause-second
both-requires-2-clause-second c = c.in_ok-on_high.ensures.grows.test_numbers c.args.low (c.in_ok-is_not.ensures.grows.test_numbers c.args.low (c.in_ok-is.ensures.grows.test_numbers c.args.low c.requires.low))

pub either-requires-2-clause-first : goal.either-requires-2-clause-first
either-requires-2-clause-first c = c.in_ok-on_low.ensures.grows.test_numbers c.in_ok-on_high.on_high c.in_ok-on_high.ensures.is_id

pub either-requires-2-clause-second : goal.either-requires-2-clause-second
either-requires-2-clause-second c = c.in_ok-on_low.ensures.is_id
