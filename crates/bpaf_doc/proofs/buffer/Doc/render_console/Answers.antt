use Rattle.std.specs.Prelude.{◌≡◌}
use Rattle.bpaf_doc.proofs.lemmas.Buffer.Words.{refl, ink}
use Rattle.bpaf_doc.specs.Shown.{console_ink}
use Rattle.bpaf_doc.specs.Console.Exact.{console_page}
use Rattle.bpaf_doc.specs.Console.Layout.{IsLayout}
use Rattle.bpaf_doc.proofs.lemmas.Console.Sheet.Exact.{IfOk-page}
use Rattle.bpaf_doc.proofs.lemmas.Console.Sheet.Whole.{page_ink, page_layout}
use Rattle.bpaf_doc.proofs.buffer.Doc.render_console.Goals as goal

pub returns-clause-exact : goal.returns-clause-exact
returns-clause-exact g c =
    IfOk-page (λ text. text ≡ console_page c.args.full c.args.max_width c.args.self.now) c.args.full c.args.max_width c.args.self.now c.lay_out.ensures.few
    refl c.lay_out.result c.lay_out.ensures.text

pub returns-clause-ink : goal.returns-clause-ink
returns-clause-ink g c =
    IfOk-page (λ text. ink text ≡ console_ink c.args.full c.args.self.now) c.args.full c.args.max_width c.args.self.now c.lay_out.ensures.few
    (page_ink c.args.full c.args.max_width c.args.self.now c.lay_out.ensures.utf8 c.lay_out.ensures.few) c.lay_out.result c.lay_out.ensures.text

pub returns-clause-layout : goal.returns-clause-layout
returns-clause-layout g c =
    IfOk-page (IsLayout c.args.self.now c.args.full c.args.max_width) c.args.full c.args.max_width c.args.self.now c.lay_out.ensures.few
    (page_layout c.args.full c.args.max_width c.args.self.now c.lay_out.ensures.utf8 c.lay_out.ensures.few) c.lay_out.result c.lay_out.ensures.text
