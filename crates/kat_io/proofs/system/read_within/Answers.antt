use Rattle.std.proofs.Common.{◌≡◌, ◌++◌, length, take, sym, ap, subst, arith}
use Rattle.std.proofs.KnownBytes.{Consumes-trans}
use Rattle.std.specs.Io.KnownBytes.{Consumes}
use Rattle.kat_io.specs.Gets.{IsWithin, IsPast}
use Rattle.kat_io.proofs.Limits.{kept_within, gone_past, all_read, read_past}
use Rattle.kat_io.proofs.system.read_within.Goals as goal

pub returns-in_default : goal.returns-in_default
returns-in_default g c = tt

pub returns-then-count-eq0 : goal.returns-then-count-eq0
returns-then-count-eq0 g c =
    let read = c.in-Ok.ensures.bytes in
    all_read (g.R.Read.remaining c.args.reader.now) (g.R.Read.remaining c.loop.reader) (g.R.Read.remaining c.read.new.self) c.loop.bytes c.read.new.buf c.in-Ok.count c.args.limit c.loop.invariant.lost read.0 read.1 c.if-count-eq0.true (omega arith) c.loop.invariant.within

pub returns-then-is_past : goal.returns-then-is_past
returns-then-is_past g c =
    let piece = take c.in-Ok.count c.read.new.buf in
    let count : c.len.result ≡ length (c.loop.bytes.items ++ piece) = omega (arith, ap length {y = c.loop.bytes.items ++ piece} c.in_ok-extend_from_slice.ensures.items) in
    read_past (g.R.Read.remaining c.args.reader.now) (g.R.Read.remaining c.loop.reader) (g.R.Read.remaining c.read.new.self) c.loop.bytes.items piece c.args.limit c.loop.invariant.lost c.in-Ok.ensures.bytes.0
    (subst (λ n. IsPast n c.args.limit) count (gone_past c.len.result c.args.limit c.is_past.result c.is_past.ensures c.if-is_past.true))

pub returns : goal.returns
returns g c = tt

pub loop-preserved : goal.loop-preserved
loop-preserved g c =
    let count : c.len.result ≡ length c.extend_from_slice.new.self.items = omega arith in
    record {
      lost = subst (Consumes (g.R.Read.remaining c.args.reader.now) (g.R.Read.remaining c.read.new.self)) (sym c.in_ok-extend_from_slice.ensures.items)
          (Consumes-trans (g.R.Read.remaining c.args.reader.now) (g.R.Read.remaining c.loop.reader) (g.R.Read.remaining c.read.new.self) c.loop.bytes.items (take c.in-Ok.count c.read.new.buf) c.loop.invariant.lost c.in-Ok.ensures.bytes.0);
      within = subst (λ n. IsWithin n c.args.limit) count (kept_within c.len.result c.args.limit c.is_past.result c.is_past.ensures c.if-is_past.false);
    }
