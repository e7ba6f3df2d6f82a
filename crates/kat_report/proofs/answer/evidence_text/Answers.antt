use Rattle.std.proofs.Common.{sym, subst}
use Rattle.certificate.proofs.PlainBytes.{text_plain}
use Rattle.certificate.specs.Laws.{IsPlain}
use Rattle.kat_report.proofs.JsonTexts.{plain_utf8}
use Rattle.kat_report.proofs.answer.evidence_text.Goals as goal

pub unwrap-requires : goal.unwrap-requires
unwrap-requires c = c.from_utf8.ensures.succeeds (plain_utf8 c.in_ok-bytes.bytes.items (subst IsPlain (sym c.in_ok-bytes.ensures) (text_plain c.args.evidence.now)))
