-- `put_sizes` puts five numbers. Assumes nothing.
use Rattle.pieces.proofs.PieceLaws.{puts_more}
use Rattle.file_writer.specs.Bytes.{sizes_bytes}
use Rattle.file_writer.proofs.bytes.put_sizes.Goals as goal

pub returns : goal.returns
unfolding sizes_bytes
returns c = puts_more (puts_more (puts_more (puts_more c.put_four.ensures c.put_four-2.ensures) c.put_four-3.ensures) c.put_four-4.ensures) c.put_four-5.ensures
