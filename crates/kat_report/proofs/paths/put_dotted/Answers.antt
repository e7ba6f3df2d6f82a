use Rattle.std.proofs.Common.{◌++◌, codes, refl}
use Rattle.std.specs.Fmt.{decimal}
use Rattle.kat_report.specs.Paths.{dotted}
use Rattle.kat_report.proofs.WrittenLists.{member_written, members_written}
use Rattle.kat_report.proofs.paths.put_dotted.Goals as goal

pub loop-k-preserved : goal.loop-k-preserved
loop-k-preserved c =
    member_written (λ n k. codes "." ++ decimal k) (λ n ks. dotted ks) (λ n k ks. refl) c.args.path.now c.loop-k.k-index _ 0 _ c.loop-k.out.items c.put_numbered.new.out.items
    c.loop-k-test.true refl c.in_ok-put_numbered.ensures c.loop-k.invariant

pub returns : goal.returns
returns c = members_written (λ n k. codes "." ++ decimal k) (λ n ks. dotted ks) (λ n. refl) c.args.path.now c.loop-k.k-index _ c.loop-k.out.items c.loop-k-test.false c.loop-k.invariant
