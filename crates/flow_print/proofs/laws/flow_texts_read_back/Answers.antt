use Rattle.flow_print.proofs.CommentLines.{flow_reads_back}
use Rattle.flow_print.proofs.laws.flow_texts_read_back.Goals as goal

pub returns : goal.returns
returns c names rules p printable = flow_reads_back names rules p printable
