use Rattle.std.proofs.Common.{◌≡◌, ◌≤◌, length, map, drop}
use Rattle.bpaf_roff.specs.Pieces.{labelled_text}
use Rattle.bpaf_roff.specs.Roff.{with_pieces, items_pieces, text_pieces}
use Rattle.bpaf_roff.specs.Steps.Output.{OnlyAdds}
use Rattle.bpaf_roff.proofs.roff.Roff.write_text.Given as goal

abbrev pub invariant-loop-font : goal.invariant-loop-font
invariant-loop-font g l = record {
  in_range : l.font-index ≤ length l.items;
  kept : OnlyAdds l.fn.self l.self;
  strip : l.self.strip_newlines ≡ l.fn.self.strip_newlines;
  pieces : with_pieces l.self (items_pieces l.fn.self.strip_newlines l.before (map labelled_text (drop l.font-index l.items))) ≡ with_pieces l.fn.self (text_pieces l.fn.self.strip_newlines (map labelled_text l.items));
}
