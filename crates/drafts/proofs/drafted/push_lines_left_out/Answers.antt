use Rattle.std.proofs.Common.{string_bytes}
use Rattle.toml_pieces.specs.Toml.{left_out}
use Rattle.drafts.proofs.Puts.{put_more}
use Rattle.drafts.proofs.drafted.push_lines_left_out.Goals as goal

pub loop-line-preserved : goal.loop-line-preserved
loop-line-preserved g c = record {
  so_far = put_more left_out c.args.lines.now c.loop-line.line-index _ (string_bytes c.loop-line.out) (string_bytes c.push_left_out.new.out) _ c.loop-line-test.true c.in_ok-push_left_out.ensures c.loop-line.invariant.so_far;
}
