use Rattle.std.proofs.Common.{◌≡◌, ◌++◌, ◌∷◌, [], ℕ, Bool, true, false, Vec, Global, Result, Ok, Err, OnOk, None, refl, ◌∙◌}
use Rattle.cert_checker.specs.Cases.{known_of}
use Rattle.cert_checker.specs.declared.known.Truth.TheVariants.{Known, Undecided}
use Rattle.cert_checker.specs.declared.sides.TargetSide.{TargetSide}
use Rattle.cert_checker.specs.Sides.{has_too}
use Rattle.cert_checker.specs.Working.AddedTargets.{AddsPossible}
use Rattle.cert_checker.proofs.sides.add_target.Goals as goal

-- the term was first appended to the surely present ones
after_sure : {E : Type 0} (r : Result (Unit {0}) E) (too : Bool) (k : ℕ) (s z : TargetSide) (sure : Vec ℕ Global) → sure.items ≡ s.sure.items ++ k ∷ []
    → OnOk r (AddsPossible too k None sure.items (record { sure = sure; alone = s.alone; alone_waits = s.alone_waits; waits = s.waits }) z) → OnOk r (AddsPossible too k None (s.sure.items ++ k ∷ []) s z)
after_sure (Ok x) too k s z sure is h = record { sure = h.sure ∙ is; alone = h.alone; alone_waits = h.alone_waits; waits = h.waits }
after_sure (Err e) too k s z sure is h = h

pub returns-in-Known-false : goal.returns-in-Known-false
returns-in-Known-false c =
    let e : known_of c.args.known.now c.args.guard ≡ Known false = cc in
    rw e refl

pub returns-in_ok-push-in-Known-true : goal.returns-in_ok-push-in-Known-true
returns-in_ok-push-in-Known-true c =
    let e : known_of c.args.known.now c.args.guard ≡ Known true = cc in
    let too = has_too c.args.known.now c.args.others.now.entries c.args.term c.args.guard in
    rw e (after_sure c.add_possible.result too c.args.term c.args.side.now c.add_possible.new.side c.push.new.self c.in_ok-push-in-Known-true.ensures.items c.add_possible.ensures)

pub returns-in-Undecided : goal.returns-in-Undecided
returns-in-Undecided c =
    let e : known_of c.args.known.now c.args.guard ≡ Undecided c.in-Undecided.test = cc in
    rw e c.add_possible-in-Undecided.ensures
