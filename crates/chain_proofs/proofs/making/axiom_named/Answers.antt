use Rattle.std.proofs.Common.{refl}
use Rattle.chain_proofs.proofs.making.axiom_named.Goals as goal

pub returns-in-assoc : goal.returns-in-assoc
returns-in-assoc c = rw (c.in-assoc.is) refl

pub returns-in-comm : goal.returns-in-comm
returns-in-comm c = rw (c.in-comm.is) refl

pub returns-in-idem : goal.returns-in-idem
returns-in-idem c = rw (c.in-idem.is) refl

pub returns-in-zero : goal.returns-in-zero
returns-in-zero c = rw (c.in-zero.is) refl

pub returns-in-seqassoc : goal.returns-in-seqassoc
returns-in-seqassoc c = rw (c.in-seqassoc.is) refl

pub returns-in-oneleft : goal.returns-in-oneleft
returns-in-oneleft c = rw (c.in-oneleft.is) refl

pub returns-in-oneright : goal.returns-in-oneright
returns-in-oneright c = rw (c.in-oneright.is) refl

pub returns-in-zeroleft : goal.returns-in-zeroleft
returns-in-zeroleft c = rw (c.in-zeroleft.is) refl

pub returns-in-zeroright : goal.returns-in-zeroright
returns-in-zeroright c = rw (c.in-zeroright.is) refl

pub returns-in-distleft : goal.returns-in-distleft
returns-in-distleft c = rw (c.in-distleft.is) refl

pub returns-in-distright : goal.returns-in-distright
returns-in-distright c = rw (c.in-distright.is) refl

pub returns-in-unfoldleft : goal.returns-in-unfoldleft
returns-in-unfoldleft c = rw (c.in-unfoldleft.is) refl

pub returns-in-unfoldright : goal.returns-in-unfoldright
returns-in-unfoldright c = rw (c.in-unfoldright.is) refl

pub returns-in-bool : goal.returns-in-bool
returns-in-bool c = rw (c.in-bool.is) refl

pub returns-in-hyp : goal.returns-in-hyp
returns-in-hyp c = rw (c.in-hyp.is) refl

pub returns-in-lfp : goal.returns-in-lfp
returns-in-lfp c = rw (c.in-lfp.is) refl

pub returns-in-rfp : goal.returns-in-rfp
returns-in-rfp c = rw (c.in-rfp.is) refl
