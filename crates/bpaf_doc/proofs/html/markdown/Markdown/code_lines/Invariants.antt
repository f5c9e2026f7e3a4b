use Rattle.std.proofs.Common.{◌≡◌, ◌≤◌, true, false, length}
use Rattle.bpaf_doc.specs.Markdown.Steps.{marked_after_all}
use Rattle.bpaf_doc.proofs.html.markdown.Markdown.code_lines.Given as goal

-- a code block is open, and the text so far with what is left comes to the same as before
abbrev pub invariant-lines : goal.invariant-lines
invariant-lines g l = record {
  opened : l.self.in_code ≡ true;
  settled : l.self.pending ≡ false;
  left : length l.fragments ≤ length l.fn.fragments;
  whole : marked_after_all l.self l.fragments ≡ marked_after_all l.fn.self l.fn.fragments;
}

abbrev pub decreases-lines : goal.decreases-lines
decreases-lines g l = length l.fragments
