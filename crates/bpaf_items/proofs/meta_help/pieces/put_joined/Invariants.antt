use Rattle.std.specs.Prelude.{◌≡◌, ◌≤◌}
use Rattle.bpaf_items.proofs.Words.{length, take, flat_map, with_text}
use Rattle.bpaf_items.proofs.meta_help.pieces.put_joined.Given as goal

abbrev pub invariant-loop-text : goal.invariant-loop-text
invariant-loop-text g l = record {
  in_range : l.text-index ≤ length l.texts;
  written : l.doc ≡ with_text l.fn.doc (flat_map (λ t. t.now) (take l.text-index l.texts)) l.style;
}
