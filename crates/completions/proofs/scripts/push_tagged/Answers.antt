use Rattle.std.proofs.Common.{◌++◌, rules, string_bytes}
use Rattle.std.proofs.lemmas.Result.{on_ok_weaker}
use Rattle.completions.specs.Scripts.{tagged}
use Rattle.completions.proofs.Tags.{piece_shorter, tagged_end, tagged_more}
use Rattle.completions.proofs.Writing.{pushed}
use Rattle.completions.proofs.scripts.push_tagged.Goals as goal

pub loop-piece-preserved : goal.loop-piece-preserved
loop-piece-preserved g c =
    record {
      utf8 = search rules;
      put =
          tagged_more c.args.tag.now c.loop-piece.rest.now (string_bytes c.loop-piece.out) (string_bytes c.push_piece.new.out) (string_bytes c.args.out.now ++ tagged c.args.tag.now c.args.text.now) c.in-Some.piece c.in-Some.after
          c.in-Some.ensures.cases c.in_ok-push_piece.ensures c.loop-piece.invariant.put;
    }

pub loop-piece-smaller : goal.loop-piece-smaller
loop-piece-smaller g c = piece_shorter c.loop-piece.rest.now c.in-Some.piece c.in-Some.after c.in-Some.ensures.cases

pub returns : goal.returns
returns g c =
    on_ok_weaker c.push_str.result
    (λ put. tagged_end c.args.tag.now c.loop-piece.rest.now (string_bytes c.loop-piece.out) (string_bytes c.push_str.new.self) (string_bytes c.args.out.now ++ tagged c.args.tag.now c.args.text.now) c.in_default.ensures.cases put c.loop-piece.invariant.put)
    (pushed c.push_str.result (string_bytes c.push_str.new.self) (string_bytes c.loop-piece.out ++ c.loop-piece.rest.now) (string_bytes c.loop-piece.out) c.push_str.ensures.bytes)
