use Rattle.std.proofs.Common.{◌≡◌, true, false, sym, ap, ◌∙◌, arith}
use Rattle.walk_up_to.specs.Marks.{are_reached}
use Rattle.walk_up_to.proofs.Closures.{made_then, reached_so, closed_so}
use Rattle.walk_up_to.proofs.saturation.saturate.Goals as goal

pub loop-marked-init : goal.loop-marked-init
loop-marked-init c = c.in_ok-look_back.ensures

pub loop-marked-preserved : goal.loop-marked-preserved
loop-marked-preserved c = made_then c.args.listed.now.pairs c.args.marked.now.marks c.loop-marked.marked.marks c.round.new.marked.marks c.loop-marked.invariant c.in_ok-grew.ensures.made

pub loop-marked-smaller : goal.loop-marked-smaller
loop-marked-smaller c = c.in_ok-grew.ensures.more.fewer (grind arith)

pub returns-then-not-grew : goal.returns-then-not-grew
returns-then-not-grew c =
    let ps = c.args.listed.now.pairs in
    let off : c.in_ok-grew.grew ≡ false = grind arith in
    closed_so ps c.args.marked.now.marks c.round.new.marked.marks c.args.listed.now.universal c.args.targets.now
    (made_then ps c.args.marked.now.marks c.loop-marked.marked.marks c.round.new.marked.marks c.loop-marked.invariant c.in_ok-grew.ensures.made)
    (c.in_ok-grew.ensures.closed off)

pub returns : goal.returns
returns c =
    let ts = c.args.targets.now in
    let m = c.loop-marked.marked.marks in
    let on : c.is_reached.result ≡ true = grind arith in
    reached_so c.args.listed.now.pairs c.args.marked.now.marks m c.args.listed.now.universal ts c.loop-marked.invariant
    (ap (λ w. are_reached w ts m) (sym c.universal.ensures.value) ∙ sym c.is_reached.ensures ∙ on)
