use Rattle.std.proofs.Common.{[], ◌∙◌, map, subst, rules}
use Rattle.std.proofs.Math.Seq.{drop-append_seam}
use Rattle.std.proofs.lemmas.List.{map-append}
use Rattle.std.proofs.lemmas.Str.{IsUtf8-append}
use Rattle.std.specs.Str.{IsUtf8}
use Rattle.bpaf_roff.specs.Pieces.{Piece, piece_at}
use Rattle.bpaf_roff.specs.Escaping.{escaped}
use Rattle.bpaf_roff.specs.Steps.Output.{KeepsFront}
use Rattle.bpaf_roff.specs.declared.escape.Escape.{Escape}
use Rattle.bpaf_roff.proofs.lemmas.EscapedText.{pieces_text}
use Rattle.bpaf_roff.proofs.lemmas.Fronts.{KeepsFront-later}
use Rattle.bpaf_roff.proofs.lemmas.Written.{piece_items_more, piece_line_start_more, AllByRecursion-push}
use Rattle.bpaf_roff.proofs.escape.bytes.escape.Goals as goal

pub loop-label-preserved : goal.loop-label-preserved
loop-label-preserved g c =
    let a = c.args in
    let inv = c.loop-label.invariant in
    let pieces = map piece_at c.loop-label.yielded in
    let p = piece_at (c.in-Some.label, c.in-Some.text) in
    let x = c.loop-label.at_line_start in
    rw (map-append piece_at c.loop-label.yielded)
    record {
      can = search rules;
      finite = search rules;
      start = inv.start;
      items = piece_items_more a.apostrophes pieces p x inv.line_start a.out.now.items c.loop-label.out.items c.write_piece.new.out.items inv.items c.in-Ok.ensures.ok;
      line_start = c.in-Ok.ensures.line_start ∙ piece_line_start_more a.apostrophes pieces p x inv.line_start;
      utf8 = AllByRecursion-push (λ (r : Piece Escape). IsUtf8 r.text) pieces p inv.utf8 c.write_piece.ensures.utf8;
    }

pub returns-in-Err-clause-err : goal.returns-in-Err-clause-err
returns-in-Err-clause-err g c =
    let old = c.args.out.now.items in
    let inv = c.loop-label.invariant in
    let new = c.write_piece.new.out.items in
    let kept = KeepsFront-later old (escaped c.args.apostrophes (map piece_at c.loop-label.yielded)) new (subst (λ now. KeepsFront now new) inv.items c.write_piece.ensures.kept) in
    rw (c.truncate.ensures.items, inv.start) kept

pub returns-clause-added : goal.returns-clause-added
returns-clause-added g c =
    let inv = c.loop-label.invariant in
    let pieces = map piece_at c.loop-label.yielded in
    rw (inv.items, drop-append_seam c.args.out.now.items (escaped c.args.apostrophes pieces)) (pieces_text c.args.apostrophes pieces inv.utf8 [])

pub returns-clause-text : goal.returns-clause-text
returns-clause-text g c =
    let inv = c.loop-label.invariant in
    let pieces = map piece_at c.loop-label.yielded in
    λ h. rw inv.items (IsUtf8-append c.args.out.now.items (escaped c.args.apostrophes pieces) h (pieces_text c.args.apostrophes pieces inv.utf8 []))
