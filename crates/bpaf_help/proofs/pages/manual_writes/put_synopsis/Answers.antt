use Rattle.bpaf_help.specs.View.{chapter_of}
use Rattle.bpaf_help.proofs.Steps.{synopsis_put}
use Rattle.bpaf_help.proofs.pages.manual_writes.put_synopsis.Goals as goal

pub returns : goal.returns
returns g c =
    synopsis_put chapter_of c.args.sections.now c.token-2.result c.args.doc.now c.put_title_block.new.doc c.token.new.self c.put_synopsis_lines.new.doc c.token-2.new.self
    c.if-sections-lt2.false c.in_ok-put_title_block.ensures c.in_ok-token.ensures.ok c.in_ok-put_synopsis_lines.ensures c.token-2.ensures.ok
