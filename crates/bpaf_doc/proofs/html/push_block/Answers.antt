use Rattle.bpaf_doc.proofs.lemmas.Html.SpelledText.{IsUtf8-spelled}
use Rattle.bpaf_doc.proofs.html.push_block.Goals as goal

pub from_utf8_unchecked-requires : goal.from_utf8_unchecked-requires
from_utf8_unchecked-requires g c = rw (c.fill-end.ensures.text, c.as_bytes.ensures.value) (IsUtf8-spelled c.args.language c.args.block.now c.utf8.block)
